-- How long an output is: a listing and its count line, a report. Assumes nothing.
use Prim.Native.Nat.{ℕ, zero, suc, ◌+◌, ◌*◌, ◌^◌, ◌≤◌, ◌<◌}
use Rattle.std.proofs.Common.{arith, sym, ◌∙◌, ltb→lt, length-append, take-append-drop, length-take-le}
use Rattle.std.specs.Prelude.{◌≡◌, Bool, true, false, cond, ◌&&◌, ◌||◌, eqb, leb, ltb, drop, replicate}
use Rattle.std.proofs.Math.Path.{refl, ap}
use Rattle.std.proofs.Math.Option.{none, some}
use mathlib.Core.List.{List, [], ◌∷◌, ◌++◌}
use Rattle.std.proofs.Math.Dec.{T, leb→le}
use Rattle.std.proofs.Math.Facts.{and_yes, yes_and}
use Rattle.std.proofs.Math.ListN.{length, take, length-replicate, length-map}
use Rattle.questions.specs.Bytes.{bytes, decimal}
use Rattle.questions.specs.Tests.{all, bit, truth}
use Rattle.questions.specs.Questions.{Refusal, Answer, first_no, question1, question12, question13, long_enough, most_rung_watchdog, most_instruction_watchdog}
use Rattle.questions.proofs.Laws.Answers.{ask_passed, first_yes, later_yes, vars_in_range_lem, watchdog_in_range}
use Rattle.questions.proofs.Laws.Tests.{all_head, all_tail, all_first}
use Rattle.printing.proofs.Laws.Puts.{decimal_long, decimal_most}
use Rattle.table.specs.Halt.{Halt, Ended, Stopped}
use Rattle.table.specs.Timer.{Timer, ticks, with, elapsed, started, tested, powered}
use Rattle.table.specs.TimerRecords.{timer_numbers, timers_in, number_timers}
use Rattle.table.proofs.Laws.TimerRecords.{numbers_back, asked_whole, whole_timers, asked_few, timers_pass}
use Rattle.table.specs.Questions.{is_bit}
use Rattle.table.proofs.Laws.Alike.{table_room, table_bits}
use Rattle.rungs.specs.Words.{operands, is_operand}
use Rattle.rungs.specs.Records.{RungRecord, lay, sum, longest, most_records, labels as record_labels}
use Rattle.rungs.specs.Buffers.{Buffers, as_buffers, written as written_from, written_over, written_words, written_records}
use Rattle.rungs.proofs.Laws.Filling.{written_first, first_written}
use Rattle.rungs.proofs.Laws.Layout.{lay_labels}
use Rattle.ladder_definitions.specs.Tree.{Rung, Ladder, labels}
use Rattle.ladder_definitions.specs.Kept.{Kept}
use Rattle.ladder_definitions.specs.Meaning.{scan_ladder}
use Rattle.ladder_definitions.specs.Questions.{ladder_of, ladder_answer, most_rungs, most_words}
use Rattle.ladder_definitions.specs.LadderScan.{LadderCounts}
use Rattle.ladder_definitions.proofs.Laws.Accepting.{accepted, sized}
use Rattle.ladder_definitions.proofs.Laws.Watchdog.{few_rungs}
use Rattle.ladder_definitions.proofs.Laws.Writes.{ladder_legal, ladder_moved}
use Rattle.ladder_definitions.proofs.Laws.Timed.{scan_has}
use Rattle.text_definitions.specs.Read.{ReadAnswer, read_text, kept, written_kept, refused as read_refused}
use Rattle.list_definitions.specs.Machine.{scan_list}
use Rattle.list_definitions.specs.ListScan.{list_of, ListCounts}
use Rattle.list_definitions.specs.Questions.{most_instructions, question10}
use Rattle.list_definitions.specs.Names.{names_in, fixed_table, question14}
use Rattle.list_definitions.specs.Listing.{ListingCall, listing, written, refused as listing_refused, listing_text}
use Rattle.list_definitions.proofs.Laws.Watchdog.{list_within}
use Rattle.list_definitions.proofs.Laws.Writes.{list_legal, list_moved}
use Rattle.list_definitions.proofs.Laws.Timed.{scan_has as list_has}
use Rattle.translation_definitions.specs.Translate.{rung_code, list_records, translate}
use Rattle.translation_definitions.specs.TranslateKept.{Counts, counts_of, translate_kept, TranslateAnswer, translated, refused as translate_refused}
use Rattle.translation_definitions.specs.BothScans.{BothEnds, Lent, BothAnswer, BothCall, both, begun, paired_scans, paired_watchdog, refused as scans_refused}
use Rattle.translation_definitions.specs.BothAgree.{BothGiven}
use Rattle.translation_definitions.proofs.Laws.Answers.{all_yes, counts_are, written_room}
use Rattle.table.proofs.Laws.Legal.{LegalTable}
use Rattle.translation_definitions.proofs.Laws.Legal.{watchdog_in_range as most_in_range}
use Rattle.translation_definitions.proofs.Laws.Calls.{given_passed, list_times}
use Rattle.translation_definitions.proofs.Laws.Boths.{both_ends, both_left, both_given, asked_yes, both_scanned, paired_legal}
use Rattle.noninterference.specs.Contacts.{ladder_contacts, among, left_out, unread}
use Rattle.program_definitions.specs.Refusals.{refusal_line}
use Rattle.program_definitions.specs.Outcome.{Outcome, printed, refused}
use Rattle.program_definitions.specs.Printout.{count_line, blank, most_listing, list_printed, kept_printed, text_printed}
use Rattle.program_definitions.proofs.Laws.Labels.{written_labels_fit}
use Rattle.program_definitions.specs.Scanout.{end_word, scan_count_lines, end_lines, entered_line, entered_lines, changed_line, changed_lines, timer_text, timer_line, same_timer, timer_lines, variable_names, unread_line, Verdict, alike, both_stopped, not_alike, verdict, verdict_line, report_of, report_lines, lent_for, kept_scanned, text_scanned}

-- ---- texts one after the other

then : (xs ys : List ℕ) {a : ℕ} {b : ℕ} → length xs ≤ a → length ys ≤ b → length (xs ++ ys) ≤ a + b
then xs ys h k = rw (length-append xs ys) (omega arith)

-- a number below 65,536, and what follows
number_then : (n : ℕ) (ys : List ℕ) (b : ℕ) → n < 65536 → length ys ≤ b → length (decimal n ++ ys) ≤ 5 + b
number_then n ys b h k = then (decimal n) ys (decimal_long n h) k

-- a number of 64 bits, and what follows
long_then : (n : ℕ) (ys : List ℕ) (b : ℕ) → n < 2 ^ 64 → length ys ≤ b → length (decimal n ++ ys) ≤ 20 + b
long_then n ys b h k = then (decimal n) ys (decimal_most n h) k

same_text : {s t : List ℕ} → ◌≡◌ {A = Outcome} (printed s) (printed t) → s ≡ t
same_text e = cc

no_text : (r : Refusal) (t : List ℕ) → ◌≡◌ {A = Outcome} (refused r) (printed t) → ⊥
no_text r t e = let z : ◌≡◌ {A = ℕ} 0 1 = cc in omega arith

pub refusal_short : (r : Refusal) → r.number < 2 ^ 64 → r.place < 2 ^ 64 → length (refusal_line r) ≤ 60
unfolding refusal_line bytes
refusal_short r n p =
    let x : length (decimal r.place ++ bytes "\n") ≤ 20 + 1 = long_then r.place (bytes "\n") 1 p (omega arith) in
    let y : length (decimal r.number ++ (bytes " place " ++ (decimal r.place ++ bytes "\n"))) ≤ 20 + 28
    = long_then r.number _ 28 n (omega (arith, x)) in
    omega (arith, y)

-- ---- ladder-list

record Small (c : Counts) : Type 0 where
  rungs : c.rungs < 65536
  instructions : c.instructions < 65536
  longest : c.longest < 65536

counts_short : (c : Counts) → Small c → length (count_line c) ≤ 45
unfolding count_line bytes
counts_short c s =
    let x : length (decimal c.longest ++ bytes "\n") ≤ 5 + 1 = number_then c.longest (bytes "\n") 1 s.longest (omega arith) in
    let y : length (decimal c.instructions ++ (bytes " longest " ++ (decimal c.longest ++ bytes "\n"))) ≤ 5 + 15
    = number_then c.instructions _ 15 s.instructions (omega (arith, x)) in
    let z : length (decimal c.rungs ++ (bytes " instructions " ++ (decimal c.instructions ++ (bytes " longest " ++ (decimal c.longest ++ bytes "\n"))))) ≤ 5 + 34
    = number_then c.rungs _ 34 s.rungs (omega (arith, y)) in
    omega (arith, z)

module _ (vars : ℕ) (words : List ℕ) (records : List RungRecord) (counts : Counts) (s : Small counts) where
  abbrev text : List ℕ
  text = listing_text (names_in fixed_table) vars (list_of words records)

  abbrev lent : List ℕ
  lent = replicate most_listing 0

  abbrev asked : Answer
  asked = first_no (question14 fixed_table ∷ question1 vars ∷ question10 vars words records ∷ question13 (record { needed = length text; lent = length lent } ∷ []) ∷ [])

  room : asked ≡ none → length text ≤ 65536
  unfolding question13 long_enough
  room q =
      let r = ask_passed 13 _ (first_yes _ _ (later_yes _ _ (later_yes _ _ (later_yes _ _ q)))) in
      let m = leb→le (length text) (length lent) (all_head long_enough (record { needed = length text; lent = length lent }) [] r) in
      omega (arith, m, length-replicate {A = ℕ} most_listing 0)

  abbrev printed_by : ListingCall → Outcome
  printed_by c = elim c.answer [ listing_refused refusal ↦ refused refusal | written n ↦ printed (take n c.buffer ++ count_line counts) ]

  list_short : (t : List ℕ) → list_printed vars words records counts ≡ printed t → length t ≤ 65600
  unfolding list_printed listing written_from
  list_short t e = go asked refl
    where
      go : (a : Answer) → asked ≡ a → length t ≤ 65600
      go none q =
          let call : listing fixed_table vars words records lent ≡ record { answer = written (length text); buffer = written_from text lent } = rw (q, listing) in
          let w : take (length text) (written_from text lent) ++ count_line counts ≡ t = same_text (sym (ap printed_by call) ∙ e) in
          let f = written_first text lent in
          let l = then text (count_line counts) (room q) (counts_short counts s) in
          rw (← w, f) (omega (arith, l))
      go (some r) q =
          let call : listing fixed_table vars words records lent ≡ record { answer = listing_refused r; buffer = lent } = rw (q, listing) in
          absurd (no_text r t (sym (ap printed_by call) ∙ e))

module _ (vars : ℕ) (k : Kept) where
  abbrev room_for : Buffers
  room_for = blank most_instructions most_records

  counts_small : (c : Counts) → (translate_kept vars k room_for).answer ≡ translated c → Small c
  unfolding counts_of
  counts_small c e =
      let r = written_room vars k room_for c e in
      let a = (accepted vars k (first_yes (ladder_answer vars k) _ (all_yes vars k room_for c e))).1 in
      let l : c.longest ≡ longest (translate vars (ladder_of k)).records = ap (λ (d : Counts). d.longest) (counts_are vars k room_for c e) in
      let m = watchdog_in_range most_instruction_watchdog _ (most_in_range vars (ladder_of k) a 65535 (omega arith)) in
      record {
        rungs = omega (arith, r.1, length-replicate {A = ℕ} most_records 0);
        instructions = omega (arith, r.0, length-replicate {A = ℕ} most_instructions 0);
        longest = omega (arith, l, m);
      }

  kept_short : (t : List ℕ) → kept_printed vars k ≡ printed t → length t ≤ 65600
  unfolding kept_printed
  kept_short t e = go (translate_kept vars k room_for).answer refl
    where
      go : (a : TranslateAnswer) → (translate_kept vars k room_for).answer ≡ a → length t ≤ 65600
      go (translated c) q =
          let z : kept_printed vars k ≡ list_printed vars (written_words (translate_kept vars k room_for).buffers c.instructions) (written_records (translate_kept vars k room_for).buffers c.rungs) c
          = rw (q, kept_printed) refl in
          list_short vars _ _ c (counts_small c q) t (sym z ∙ e)
      go (translate_refused r) q = let z : kept_printed vars k ≡ refused r = rw (q, kept_printed) refl in absurd (no_text r t (sym z ∙ e))

pub text_short : (vars : ℕ) (text t : List ℕ) → text_printed vars text ≡ printed t → length t ≤ 65600
unfolding text_printed
text_short vars text t e = go (read_text vars text (blank most_words most_rungs)).answer refl
  where
    go : (a : ReadAnswer) → (read_text vars text (blank most_words most_rungs)).answer ≡ a → length t ≤ 65600
    go (kept words rungs) q =
        let z : text_printed vars text ≡ kept_printed vars (written_kept (read_text vars text (blank most_words most_rungs)).buffers words rungs) = rw (q, text_printed) refl in
        kept_short vars _ t (sym z ∙ e)
    go (read_refused r) q = let z : text_printed vars text ≡ refused r = rw (q, text_printed) refl in absurd (no_text r t (sym z ∙ e))

-- ---- ladder-scan

-- a line that may be left out
one_line_lem : (none : Bool) (line : List ℕ) → length line ≤ 32 → length {A = ℕ} (elim none as (λ _. List ℕ) [ true ↦ [] | false ↦ line ]) ≤ 32
one_line_lem true line h = omega arith
one_line_lem false line h = h

-- a line of a rung has at most 32 bytes
entered_short : (label times : ℕ) → label < 65536 → times < 2 ^ 64 → length (entered_line label times) ≤ 32
unfolding entered_line bytes
entered_short label times h k =
    let a = decimal_long label h in
    let b = decimal_most times k in
    simp length-append (omega arith)

rungs_short : (ls ns : List ℕ) → T (all is_operand ls) → sum ns < 2 ^ 64 → length (entered_lines ls ns) ≤ 32 * length ls
unfolding entered_lines sum
rungs_short [] ns h k = omega arith
rungs_short (l ∷ ls) [] h k = omega arith
rungs_short (l ∷ ls) (n ∷ ns) h k =
    let line = one_line_lem (eqb n 0) (entered_line l n) (entered_short l n (ltb→lt l operands (all_head is_operand l ls h)) (omega arith)) in
    let rest = rungs_short ls ns (all_tail is_operand l ls h) (omega arith) in
    let x = then (elim (eqb n 0) as (λ _. List ℕ) [ true ↦ [] | false ↦ entered_line l n ]) (entered_lines ls ns) line rest in
    omega (arith, x)

-- a line of a variable has at most 32 bytes
line_short : (v b l t : ℕ) → v < 65536 → b < 65536 → l < 65536 → t < 65536 → length (changed_line v b l t) ≤ 32
unfolding changed_line bytes
line_short v b l t hv hb hl ht =
    let x1 : length (decimal t ++ bytes "\n") ≤ 5 + 1 = number_then t (bytes "\n") 1 ht (omega arith) in
    let x2 : length (decimal b ++ (bytes ">" ++ (decimal t ++ bytes "\n"))) ≤ 5 + 7 = number_then b _ 7 hb (omega (arith, x1)) in
    let x3 : length (decimal l ++ (bytes " " ++ (decimal b ++ (bytes ">" ++ (decimal t ++ bytes "\n"))))) ≤ 5 + 13 = number_then l _ 13 hl (omega (arith, x2)) in
    let x4 : length (decimal b ++ (bytes ">" ++ (decimal l ++ (bytes " " ++ (decimal b ++ (bytes ">" ++ (decimal t ++ bytes "\n"))))))) ≤ 5 + 19 = number_then b _ 19 hb (omega (arith, x3)) in
    let x5 : length (decimal v ++ (bytes " " ++ (decimal b ++ (bytes ">" ++ (decimal l ++ (bytes " " ++ (decimal b ++ (bytes ">" ++ (decimal t ++ bytes "\n"))))))))) ≤ 5 + 25
    = number_then v _ 25 hv (omega (arith, x4)) in
    omega (arith, x5)

bit_few : (b : ℕ) → T (is_bit b) → b < 65536
bit_few b h = let x = leb→le b 1 h in omega (arith, x)

lines_short : (v : ℕ) (bs ls ts : List ℕ) → v + length bs ≤ 65536 → T (all is_bit bs) → T (all is_bit ls) → T (all is_bit ts) → length (changed_lines v bs ls ts) ≤ 32 * length bs
unfolding changed_lines
lines_short v [] ls ts h p q r = omega arith
lines_short v (b ∷ bs) [] ts h p q r = omega arith
lines_short v (b ∷ bs) (l ∷ ls) [] h p q r = omega arith
lines_short v (b ∷ bs) (l ∷ ls) (t ∷ ts) h p q r =
    let line = one_line_lem (eqb l b && eqb t b) (changed_line v b l t) (line_short v b l t (omega arith) (bit_few b (all_head is_bit b bs p)) (bit_few l (all_head is_bit l ls q)) (bit_few t (all_head is_bit t ts r))) in
    let rest = lines_short (suc v) bs ls ts (omega arith) (all_tail is_bit b bs p) (all_tail is_bit l ls q) (all_tail is_bit t ts r) in
    let x = then (elim (eqb l b && eqb t b) as (λ _. List ℕ) [ true ↦ [] | false ↦ changed_line v b l t ]) (changed_lines (suc v) bs ls ts) line rest in
    omega (arith, x)

-- ---- lines of timers

-- start and flags of 32 bits
abbrev tick : ℕ → Bool
tick n = ltb n ticks

abbrev narrow : Timer → Bool
narrow t = tick t.start && (tick t.running && tick t.done)

with_narrow : (t : Timer) (start : ℕ) (running done : Bool) → T (tick start) → T (narrow (with t start running done))
with_narrow t start running done h =
    yes_and (tick start) (tick (bit running) && tick (bit done)) h (yes_and (tick (bit running)) (tick (bit done)) (flag running) (flag done))
  where
    flag : (b : Bool) → T (tick (bit b))
    flag true = tt
    flag false = tt

powered_narrow : (now : ℕ) → T (tick now) → (p : Bool) (t : Timer) → T (narrow t) → T (narrow (powered now p t))
unfolding powered tested started
powered_narrow now h false t n = with_narrow t t.start false false (and_yes (tick t.start) (tick t.running && tick t.done) n).0
powered_narrow now h true t n = let u = started now t in with_narrow u u.start true (truth u.done || leb u.preset (elapsed now u.start)) (go (truth t.running))
  where
    go : (c : Bool) → T (tick (cond c t (with t now true false)).start)
    go true = (and_yes (tick t.start) (tick t.running && tick t.done) n).0
    go false = h

text_of_timer : (t : Timer) → T (narrow t) → length (timer_text t) ≤ 62
unfolding timer_text bytes
text_of_timer t h =
    let x = and_yes (tick t.start) (tick t.running && tick t.done) h in
    let y = and_yes (tick t.running) (tick t.done) x.1 in
    let a = ltb→lt t.start ticks x.0 in
    let b = ltb→lt t.running ticks y.0 in
    let c = ltb→lt t.done ticks y.1 in
    let s = decimal_most t.start (omega arith) in
    let r = decimal_most t.running (omega arith) in
    let d = decimal_most t.done (omega arith) in
    simp length-append (omega arith)

timer_short : (n : ℕ) (b l t : Timer) → n < 65536 → T (narrow b) → T (narrow l) → T (narrow t) → length (timer_line n b l t) ≤ 260
unfolding timer_line bytes
timer_short n b l t h hb hl ht =
    let a = decimal_long n h in
    let x = text_of_timer b hb in
    let y = text_of_timer l hl in
    let z = text_of_timer t ht in
    simp length-append (omega arith)

one_timer : (none : Bool) (line : List ℕ) → length line ≤ 260 → length {A = ℕ} (elim none as (λ _. List ℕ) [ true ↦ [] | false ↦ line ]) ≤ 260
one_timer true line h = omega arith
one_timer false line h = h

timers_short : (n : ℕ) (bs ls ts : List Timer) → n + length bs ≤ 65536 → T (all narrow bs) → T (all narrow ls) → T (all narrow ts) → length (timer_lines n bs ls ts) ≤ 260 * length bs
unfolding timer_lines
timers_short n [] ls ts h p q r = omega arith
timers_short n (b ∷ bs) [] ts h p q r = omega arith
timers_short n (b ∷ bs) (l ∷ ls) [] h p q r = omega arith
timers_short n (b ∷ bs) (l ∷ ls) (t ∷ ts) h p q r =
    let line = one_timer (same_timer l b && same_timer t b) (timer_line n b l t) (timer_short n b l t (omega arith) (all_head narrow b bs p) (all_head narrow l ls q) (all_head narrow t ts r)) in
    let rest = timers_short (suc n) bs ls ts (omega arith) (all_tail narrow b bs p) (all_tail narrow l ls q) (all_tail narrow t ts r) in
    let x = then (elim (same_timer l b && same_timer t b) as (λ _. List ℕ) [ true ↦ [] | false ↦ timer_line n b l t ]) (timer_lines (suc n) bs ls ts) line rest in
    omega (arith, x)

-- ---- the line of variables that no contact reads

pub unread_short : (read : List ℕ) (v many : ℕ) → v + many ≤ 65536 → length (variable_names (left_out read v many)) ≤ 7 * many
unfolding left_out variable_names bytes
unread_short read v zero h = omega arith
unread_short read v (suc many) h = go (among v read) (unread_short read (suc v) many (omega arith))
  where
    go : (b : Bool) → length (variable_names (left_out read (suc v) many)) ≤ 7 * many
        → length (variable_names (elim b as (λ _. List ℕ) [ true ↦ [] | false ↦ v ∷ [] ] ++ left_out read (suc v) many)) ≤ 7 * suc many
    go true ih = omega arith
    go false ih = let a = decimal_long v (omega arith) in let e = length-append (decimal v) (variable_names (left_out read (suc v) many)) in omega arith

names_short : (vars : ℕ) (gs : Ladder) → vars ≤ 1024 → length (unread_line (unread vars gs)) ≤ 7200
unfolding unread unread_line bytes
names_short vars gs h =
    let few = unread_short (ladder_contacts gs) 0 vars (omega arith) in
    let e = length-append (variable_names (left_out (ladder_contacts gs) 0 vars)) (bytes "\n") in
    omega arith

pub word_short : (h : Halt) → length (end_word h) ≤ 7
unfolding end_word bytes
word_short Ended = omega arith
word_short Stopped = omega arith

-- the counts of both scans have 64 bits
pub record Fitting (k : LadderCounts) (c : ListCounts) : Type 0 where
  pub ladder_rungs : k.rungs < 2 ^ 64
  pub ladder_moved : k.moved < 2 ^ 64
  pub list_instructions : c.instructions < 2 ^ 64
  pub list_rungs : c.rungs < 2 ^ 64
  pub list_moved : c.moved < 2 ^ 64

counts_lines_short : (k : LadderCounts) (c : ListCounts) → Fitting k c → length (scan_count_lines k c) ≤ 132
unfolding scan_count_lines bytes
counts_lines_short k c f =
    let a = decimal_most k.rungs f.ladder_rungs in
    let b = decimal_most c.rungs f.list_rungs in
    let i = decimal_most c.instructions f.list_instructions in
    let m = decimal_most k.moved f.ladder_moved in
    let o = decimal_most c.moved f.list_moved in
    simp length-append (omega arith)

pub ends_short : (e : BothEnds) → Fitting e.ladder e.list → length (end_lines e) ≤ 200
unfolding end_lines bytes
ends_short e f =
    let w = word_short e.ladder_halt in
    let v = word_short e.list_halt in
    let c = counts_lines_short e.ladder e.list f in
    simp length-append (omega arith)

verdict_short : (x : Verdict) → length (verdict_line x) ≤ 13
unfolding verdict_line bytes
verdict_short alike = omega arith
verdict_short both_stopped = omega arith
verdict_short not_alike = omega arith

-- the V variables of a legal table
module _ (vars : ℕ) (table : List ℕ) (legal : LegalTable vars table) where
  bits : T (all is_bit (take vars table))
  bits = all_first is_bit (take vars table) (drop vars table) (rw (take-append-drop vars table) (table_bits vars table legal))

  as_many : length (take vars table) ≡ vars
  as_many = let m = table_room vars table legal in length-take-le vars table (omega (arith, m))

module _ (vars : ℕ) (k : Kept) (table timers : List ℕ) (now n : ℕ) where
  abbrev w : ℕ
  w = paired_watchdog vars k table timers now n

  abbrev lends : Lent
  lends = lent_for table timers

  abbrev e : BothEnds
  e = both_ends vars k table timers now lends n w

  abbrev left : Lent
  left = both_left vars k table timers now lends n w

  -- the labels of the list's rungs are the ladder's
  labels_left : take e.counts.rungs left.buffers.labels ≡ labels (ladder_of k)
  unfolding both_ends both_left counts_of written_over as_buffers translate list_records
  labels_left =
      let label : Rung → ℕ = λ g. g.label in
      let size : Rung → ℕ = λ g. length (rung_code vars (λ l. 0) g) in
      let rs = lay label size 0 (ladder_of k) in
      first_written (length rs) (record_labels rs) lends.buffers.labels (length-map rs (λ r. r.label)) ∙ lay_labels label size 0 (ladder_of k)

  module _ (given : BothGiven vars k table timers lends n) where
    legal : question12 most_instruction_watchdog w ≡ none
    legal = paired_legal vars k table timers now n given.given.accepted given.given.watchdog

    -- their times add up to the rungs entered
    times_left : sum (take e.counts.rungs left.buffers.times) ≡ e.list.rungs
    unfolding both_ends both_left counts_of written_over as_buffers
    times_left =
        let h = list_times vars k table (number_timers timers) now n (given_passed vars k lends.buffers table (number_timers timers) n given.given) w legal in
        ap sum (first_written _ _ lends.buffers.times h.0) ∙ h.1

    counts_fit : Fitting e.ladder e.list
    unfolding both_ends
    counts_fit =
        let s = begun vars table timers now in
        let words = (sized (ladder_of k) (accepted vars k given.given.accepted).1.sizes).words_a_rung in
        let most = watchdog_in_range most_rung_watchdog n given.given.watchdog in
        let few = few_rungs (ladder_of k) n s in
        let top = watchdog_in_range most_instruction_watchdog w legal in
        let c = list_within (translate vars (ladder_of k)) w s in
        record {
          ladder_rungs = omega (arith, most, few);
          ladder_moved = omega (arith, ladder_moved (ladder_of k) n s words, most, few);
          list_instructions = omega (arith, c.instructions, top);
          list_rungs = omega (arith, c.rungs, top);
          list_moved = omega (arith, list_moved (translate vars (ladder_of k)) w s, c.instructions, top);
        }

    module _ (few-ticks : T (all tick timers)) (tick-now : T (tick now)) where
      -- the records that the scans begin with, and those that they leave
      same_records : number_timers timers ≡ timers_in timers
      same_records = whole_timers timers (asked_whole vars timers given.given.timers_legal)

      records_few : length (timers_in timers) ≤ 32
      records_few = rw same_records at (asked_few vars (number_timers timers) given.given.timers_legal)

      narrow_before : T (all narrow (timers_in timers))
      narrow_before = timers_pass tick timers few-ticks

      narrow_begun : T (all narrow (number_timers timers))
      narrow_begun = rw same_records narrow_before

      worked_short : length (timer_lines 0 (timers_in timers) (timers_in left.ladder_timers) (timers_in left.list_timers)) ≤ 260 * length (timers_in timers)
      unfolding both_left
      worked_short =
          let s = begun vars table timers now in
          let ladder : T (all narrow (timers_in (timer_numbers (scan_ladder (ladder_of k) n s).state.timers))) = rw (numbers_back (scan_ladder (ladder_of k) n s).state.timers) (scan_has narrow now (powered_narrow now tick-now) (ladder_of k) n s refl narrow_begun) in
          let list : T (all narrow (timers_in (timer_numbers (scan_list (translate vars (ladder_of k)) w s).state.timers))) = rw (numbers_back (scan_list (translate vars (ladder_of k)) w s).state.timers) (list_has narrow now (powered_narrow now tick-now) (translate vars (ladder_of k)) w s refl narrow_begun) in
          timers_short 0 (timers_in timers) _ _ (omega (arith, records_few)) narrow_before ladder list

      report_short : T (all is_operand (labels (ladder_of k))) → length (report_lines vars (unread vars (ladder_of k)) table timers e left) ≤ 98304
      unfolding report_lines report_of both_left
      report_short fit =
          let s = begun vars table timers now in
          let taken = (accepted vars k given.given.accepted).1 in
          let range = vars_in_range_lem vars taken.range in
          let few = (sized (ladder_of k) taken.sizes).rungs in
          let many = length-map (ladder_of k) (λ g. g.label) in
          let l = take vars (scan_ladder (ladder_of k) n s).state.bytes in
          let t = take vars (scan_list (translate vars (ladder_of k)) w s).state.bytes in
          let lb = bits vars _ (ladder_legal vars (ladder_of k) n s given.given.legal) in
          let tb = bits vars _ (list_legal vars (translate vars (ladder_of k)) w s given.given.legal) in
          let m = as_many vars table given.given.legal in
          let ns = take e.counts.rungs left.buffers.times in
          let entered = rungs_short (labels (ladder_of k)) ns fit (rw times_left counts_fit.list_rungs) in
          let changed = lines_short 0 (take vars table) l t (omega (arith, m, range.1)) (bits vars table given.given.legal) lb tb in
          let lines : List ℕ = changed_lines 0 (take vars table) l t in
          let clocks : List ℕ = timer_lines 0 (timers_in timers) (timers_in left.ladder_timers) (timers_in left.list_timers) in
          let line : List ℕ = verdict_line (verdict e l t left.ladder_timers left.list_timers) in
          let rungs : List ℕ = entered_lines (labels (ladder_of k)) ns in
          let names : List ℕ = unread_line (unread vars (ladder_of k)) in
          let last : List ℕ = names ++ line in
          let x = then (end_lines e) (rungs ++ (lines ++ (clocks ++ last))) (ends_short e counts_fit) (then rungs (lines ++ (clocks ++ last)) entered
          (then lines (clocks ++ last) changed (then clocks last worked_short
          (then names line (names_short vars (ladder_of k) range.1) (verdict_short (verdict e l t left.ladder_timers left.list_timers)))))) in
          rw labels_left (omega (arith, x, m, range.1, few, many, records_few))

  abbrev scanned_by : BothCall → Outcome
  scanned_by c = elim c.answer [ scans_refused refusal ↦ refused refusal | both ends ↦ printed (report_lines vars (unread vars (ladder_of k)) table timers ends c.lent) ]

  scanned_short : T (all tick timers) → T (tick now) → T (all is_operand (labels (ladder_of k))) → (t : List ℕ) → kept_scanned vars k table timers now n ≡ printed t → length t ≤ 98304
  unfolding kept_scanned
  scanned_short few-ticks tick-now fit t q = go (paired_scans vars k table timers now lends n).answer refl
    where
      go : (a : BothAnswer) → (paired_scans vars k table timers now lends n).answer ≡ a → length t ≤ 98304
      go (scans_refused r) a = let z : kept_scanned vars k table timers now n ≡ refused r = rw (a, kept_scanned) refl in absurd (no_text r t (sym z ∙ q))
      go (both ends) a =
          let given = (both_given vars k table timers now lends n w ends a).0 in
          let is = both_scanned vars k table timers now lends n w (asked_yes vars k table timers now lends n given w (legal given)) in
          rw (← (same_text (sym (ap scanned_by is) ∙ q))) (report_short given few-ticks tick-now fit)

pub report_text_short : (vars n : ℕ) (table timers : List ℕ) (now : ℕ) (text t : List ℕ) → T (all tick timers) → T (tick now) → text_scanned vars n table timers now text ≡ printed t
    → length t ≤ 98304
unfolding text_scanned
report_text_short vars n table timers now text t few-ticks tick-now e = go (read_text vars text (blank most_words most_rungs)).answer refl
  where
    go : (a : ReadAnswer) → (read_text vars text (blank most_words most_rungs)).answer ≡ a → length t ≤ 98304
    go (kept words rungs) q =
        let z : text_scanned vars n table timers now text ≡ kept_scanned vars (written_kept (read_text vars text (blank most_words most_rungs)).buffers words rungs) table timers now n = rw (q, text_scanned) refl in
        scanned_short vars _ table timers now n few-ticks tick-now (written_labels_fit vars text (blank most_words most_rungs) words rungs q) t (sym z ∙ e)
    go (read_refused r) q = let z : text_scanned vars n table timers now text ≡ refused r = rw (q, text_scanned) refl in absurd (no_text r t (sym z ∙ e))
