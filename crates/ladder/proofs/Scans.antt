-- Laws of Ladder scan over timer records as they are lent, in one slice of numbers and in five slices. Assumes nothing.
use Prim.Native.Nat.{ℕ, zero, suc, ◌+◌, ◌*◌, ◌/◌, ◌≤◌}
use native.Mathlib.Omega.{arith}
use mathlib.Core.Path.{◌≡◌, refl, sym, ap, ◌∙◌}
use mathlib.Core.Bool.{Bool, true, false, not, ◌&&◌, true≢false}
use mathlib.Core.Option.{none, some}
use mathlib.Core.List.{List, [], ◌∷◌, ◌++◌, map}
use lib.ListN.{length, take, length-append}
use lib.Seq.{length-take-le, take-append_seam}
use Rattle.questions.specs.Questions.{Answer, ask, first_no, vars_in_range, question1}
use Rattle.questions.specs.Refusals.{refusal_of}
use Rattle.questions.proofs.Laws.Answers.{ask_passed}
use Rattle.questions.proofs.Laws.Tests.{T→true}
use Rattle.questions.specs.declared.Refusal.{Refusal as RefusalCase}
use Rattle.questions.specs.declared.Refusal.TheVariants.{Variables, Timers}
use Rattle.table.specs.Timer.{Timer}
use Rattle.table.specs.State.{State, state_of, write, write_if}
use Rattle.table.specs.Questions.{timers_in_range, question16, timer_variables}
use Rattle.table.specs.TimerRecords.{Columns, columns, one_length, too_many, column_timers, timer_columns, columns_after, timers_in, timer_numbers, whole, number_timers, numbers_after}
use Rattle.timers.specs.Parts.{can_pack, Packed, Unpackable, Unpacked}
use Rattle.table.proofs.Laws.TimerRecords.{numbers_back, whole_timers}
use Rattle.timers.proofs.Laws.Numbers.{numbers_whole, numbers_length, whole_back, same_whole, whole_length, numbers_after_lem, numbers_left}
use Rattle.timers.proofs.Laws.Columns.{one_length_lem, joined_length, column_timers_lem, columns_back, timers_back, columns_after_lem, too_many_lem, can_pack_lem, cannot_pack}
use Rattle.timers.proofs.Laws.Kept.{RecordsKept, kept_self, kept_both, kept_count, timer_kept, presets, columns_left}
use Rattle.rungs.proofs.Laws.Rows.{row_labels, row_offsets}
use Rattle.ladder_definitions.specs.Tree.{contact, contactn, Front, input, front_and, front_or, Output, coil, coiln, jump, jumpn, set_coil, reset_coil, timer, Rear, output, rear_and, rear_or, Rung, Ladder}
use Rattle.ladder_definitions.specs.Meaning.{work_input, work_front, Run, onward, jumped, left, jump_if, unless_jumped, run_output, run_rear, run_rung, follow, scan_from, scan_ladder}
use Rattle.ladder_definitions.specs.Kept.{Kept, kept_of}
use Rattle.ladder_definitions.specs.Questions.{ladder_of}
use Rattle.ladder_definitions.specs.LadderScan.{LadderScanCall, LadderScanned, scan_ends, scan_questions, call_ladder_scan, LadderScanDone, LadderScanNumbers, LadderScanColumns}
use Rattle.ladder_definitions.proofs.Laws.Held.{three_fields, even}
use Rattle.ladder_definitions.proofs.Laws.Accepting.{scan_passed}
use Rattle.std.specs.Prelude.{Err}
use Rattle.ladder_scanning.specs.Scanned.{Scanned}
use Rattle.ladder_scanning.proofs.Laws.Scans.{scan_taken, scan_refuses, scan_scans}

-- the promises of the scans over numbers and over five slices
abbrev ScansNumbers : ℕ → Kept → List ℕ → List ℕ → ℕ → ℕ → LadderScanned → List ℕ → List ℕ → Type 0
ScansNumbers vars k t ns now w r u ms = LadderScanNumbers (call_ladder_scan vars k t (number_timers ns) now w) r u ns ms

abbrev ScansColumns : ℕ → Kept → List ℕ → Columns → ℕ → ℕ → LadderScanned → List ℕ → Columns → Type 0
ScansColumns vars k t c now w r u d = LadderScanColumns (call_ladder_scan vars k t (column_timers c) now w) r u c d

-- ---- numbers that question 16 took

module _ (vars : ℕ) (ns : List ℕ) (e : timers_in_range vars (number_timers ns) ≡ true) where
  pub taken_whole : whole ns ≡ true
  unfolding number_timers
  taken_whole = go (whole ns) refl
    where
      go : (b : Bool) → whole ns ≡ b → whole ns ≡ true
      go true q = q
      go false q =
          let many : number_timers ns ≡ too_many = rw (q, number_timers) in
          absurd (true≢false (sym e ∙ ap (timers_in_range vars) many ∙ too_many_lem vars too_many (omega arith)))

  pub record_count : length ns / 5 ≡ length (number_timers ns)
  record_count = let l = whole_length ns taken_whole in rw (whole_timers ns taken_whole) (omega arith)

-- ---- a scan leaves each timer record its preset and its variable, and flags that fit a byte

abbrev Kept_in : State → State → Type 0
Kept_in s u = RecordsKept s.timers u.timers

front_kept : (f : Front) (s : State) → Kept_in s (work_front f s).state
unfolding work_front work_input
front_kept (input (contact v)) s = kept_self s.timers
front_kept (input (contactn v)) s = kept_self s.timers
front_kept (front_and f g) s = kept_both (front_kept f s) (front_kept g (work_front f s).state)
front_kept (front_or f g) s = kept_both (front_kept f s) (front_kept g (work_front f s).state)

jump_kept : (b : Bool) (l : ℕ) (s : State) → Kept_in s (left (jump_if b l s))
unfolding jump_if left
jump_kept true l s = kept_self s.timers
jump_kept false l s = kept_self s.timers

if_kept : (p : Bool) (s : State) (v : ℕ) (b : Bool) → Kept_in s (write_if p s v b)
unfolding write_if write
if_kept true s v b = kept_self s.timers
if_kept false s v b = kept_self s.timers

output_kept : (o : Output) (p : Bool) (s : State) → Kept_in s (left (run_output o p s))
unfolding run_output left write
output_kept (coil v) p s = kept_self s.timers
output_kept (coiln v) p s = kept_self s.timers
output_kept (jump l) p s = jump_kept p l s
output_kept (jumpn l) p s = jump_kept (not p) l s
output_kept (set_coil v) p s = if_kept p s v true
output_kept (reset_coil v) p s = if_kept p s v false
output_kept (timer n) p s = timer_kept s n p

unless_kept : (s : State) (x : Run) (next : State → Run) → Kept_in s (left x) → ((u : State) → Kept_in u (left (next u))) → Kept_in s (left (unless_jumped x next))
unfolding unless_jumped left
unless_kept s (onward u) next h k = kept_both h (k u)
unless_kept s (jumped l u) next h k = h

rear_kept : (r : Rear) (p : Bool) (s : State) → Kept_in s (left (run_rear r p s))
unfolding run_rear
rear_kept (output o) p s = output_kept o p s
rear_kept (rear_and f r) p s = kept_both (front_kept f s) (rear_kept r (p && (work_front f s).power) (work_front f s).state)
rear_kept (rear_or a b) p s = unless_kept s (run_rear a p s) (λ u. run_rear b p u) (rear_kept a p s) (λ u. rear_kept b p u)

rung_kept : (g : Rung) (s : State) → Kept_in s (left (run_rung g s))
unfolding run_rung
rung_kept g s = kept_both (front_kept g.front s) (rear_kept g.rear (work_front g.front s).power (work_front g.front s).state)

scan_from_kept : (gs : Ladder) (n k : ℕ) (rest : Ladder) (s : State) → Kept_in s (scan_from gs n k rest s).state
unfolding scan_from
scan_from_kept gs zero k [] s = kept_self s.timers
scan_from_kept gs zero k (g ∷ rest) s = kept_self s.timers
scan_from_kept gs (suc n) k [] s = kept_self s.timers
scan_from_kept gs (suc n) k (g ∷ rest) s = let x = run_rung g s in kept_both (rung_kept g s) (scan_from_kept gs n (k + 1) (follow gs rest x) (left x))

call_kept_lem : (vars : ℕ) (k : Kept) (t : List ℕ) (ts : List Timer) (now w : ℕ) → RecordsKept ts (call_ladder_scan vars k t ts now w).timers
unfolding call_ladder_scan scan_ends scan_ladder
call_kept_lem vars k t ts now w = go (scan_questions vars k t ts w) refl
  where
    go : (a : Answer) → scan_questions vars k t ts w ≡ a → RecordsKept ts (call_ladder_scan vars k t ts now w).timers
    go none e = rw (e, call_ladder_scan) (scan_from_kept (ladder_of k) w 0 (ladder_of k) (state_of vars t ts now))
    go (some refusal) e = rw (e, call_ladder_scan) (kept_self ts)

-- ---- one slice of numbers

same_numbers : (ns : List ℕ) → ns ≡ numbers_after ns (number_timers ns)
unfolding numbers_after number_timers
same_numbers ns = go (whole ns) refl
  where
    go : (b : Bool) → whole ns ≡ b → ns ≡ numbers_after ns (number_timers ns)
    go true q = rw q (sym (whole_back ns q))
    go false q = rw q refl

module _ (vars : ℕ) (k : Kept) (t ns : List ℕ) (now w : ℕ) where
  abbrev call : LadderScanCall
  call = call_ladder_scan vars k t (number_timers ns) now w

  pub numbers_refused : (x : RefusalCase) → scan_questions vars k t (number_timers ns) w ≡ some (refusal_of x) → ScansNumbers vars k t ns now w (Err x) t ns
  numbers_refused x e =
      let d = scan_refuses vars k t (number_timers ns) w now x e in
      record { done = d; numbers = same_numbers ns ∙ ap (numbers_after ns) d.same_timers }

  module _ (ok : scan_questions vars k t (number_timers ns) w ≡ none) where
    -- question 16 took them
    pub passed_whole : whole ns ≡ true
    unfolding question16
    passed_whole = taken_whole vars ns (T→true _ (ask_passed 16 _ (scan_passed vars k t (number_timers ns) w ok).legal_timers))

    -- the scan, which leaves as many numbers
    pub numbers_scanned : (r : LadderScanned) (u ms : List ℕ) → length ms ≡ length ns → LadderScanDone call r u (timers_in ms) → ScansNumbers vars k t ns now w r u ms
    numbers_scanned r u ms l d = record {
      done = rw (whole_timers ms (same_whole ms ns l ∙ passed_whole)) d;
      numbers = numbers_left ns ms call.timers l d.same_timers passed_whole;
    }

-- the scan of four number slices that the questions took, as the scan of their row
pub scan_done : (vars : ℕ) (ws ls os ns ts t rs : List ℕ) (now w : ℕ) (r : LadderScanned) (u ms : List ℕ) → scan_questions vars (kept_of ws ls os ns ts) t (number_timers rs) w ≡ none
    → length ms ≡ length rs → Scanned ws ls os (state_of vars t (timers_in rs) now) w r u (timers_in ms) → ScansNumbers vars (kept_of ws ls os ns ts) t rs now w r u ms
scan_done vars ws ls os ns ts t rs now w r u ms ok l scanned =
    let k = kept_of ws ls os ns ts in
    let a = scan_taken vars k t (number_timers rs) w ok in
    let e = even ws ls os ns ts (ladder_of k) a.0 a.1.some_rung in
    let fields = three_fields ws ls os ns ts (ladder_of k) a.0 a.1.some_rung in
    numbers_scanned vars k t rs now w ok r u ms l
    (scan_scans vars k t (number_timers rs) w now ok r u (timers_in ms)
    (rw (fields, row_labels ls os ns e, row_offsets ls os ns e, whole_timers rs (passed_whole vars k t rs now w ok)) scanned))

-- ---- five slices

same_columns : (c : Columns) → c ≡ columns_after c (column_timers c)
unfolding columns_after
same_columns c = go (one_length c) refl
  where
    go : (b : Bool) → one_length c ≡ b → c ≡ columns_after c (column_timers c)
    go true q = sym (columns_after_lem c (column_timers c) q ∙ columns_back c q)
    go false q = rw q refl

presets_back : (c : Columns) → one_length c ≡ true → presets (column_timers c) ≡ c.preset
unfolding timer_columns
presets_back c e = ap (λ x. x.preset) (columns_back c e)

variables_back : (c : Columns) → one_length c ≡ true → timer_variables (column_timers c) ≡ c.variable
unfolding timer_columns
variables_back c e = ap (λ x. x.variable) (columns_back c e)

-- the numbers that were packed, at a buffer's start
module _ (c : Columns) (n : ℕ) (ns : List ℕ) (p : Packed c n ns) (e : can_pack (length c.preset) (length c.start) (length c.variable) (length c.running) (length c.done) ≡ true)
    (room : length ns ≡ 160) where
  pub packed_fits : n ≤ length ns
  packed_fits = let few = (can_pack_lem c e).1 in omega (arith, few, p.count, room)

  pub packed_long : n ≡ length (take n ns)
  packed_long = sym (length-take-le n ns packed_fits)

module _ (vars : ℕ) (k : Kept) (t : List ℕ) (c : Columns) (now w : ℕ) where
  abbrev called : LadderScanCall
  called = call_ladder_scan vars k t (column_timers c) now w

  columns_refused : (x : RefusalCase) → scan_questions vars k t (column_timers c) w ≡ some (refusal_of x) → ScansColumns vars k t c now w (Err x) t c
  columns_refused x e =
      let d = scan_refuses vars k t (column_timers c) w now x e in
      record { done = d; slices = same_columns c ∙ ap (columns_after c) d.same_timers }

  -- slices that cannot be packed
  module _ (e : can_pack (length c.preset) (length c.start) (length c.variable) (length c.running) (length c.done) ≡ false) where
    pub columns_refused1 : vars_in_range vars ≡ false → ScansColumns vars k t c now w (Err Variables) t c
    unfolding scan_questions first_no question1 ask refusal_of
    columns_refused1 n = columns_refused Variables (rw n refl)

    pub columns_refused16 : vars_in_range vars ≡ true → ScansColumns vars k t c now w (Err Timers) t c
    unfolding scan_questions first_no question1 question16 ask refusal_of
    columns_refused16 y = columns_refused Timers (rw (y, cannot_pack c e vars) refl)

  -- slices that were packed, n numbers
  module _ (n : ℕ) (ns : List ℕ) (p : Packed c n ns) (e : can_pack (length c.preset) (length c.start) (length c.variable) (length c.running) (length c.done) ≡ true)
      (r : LadderScanned) (u ms : List ℕ) (s : ScansNumbers vars k t (take n ns) now w r u ms) where
    one : one_length c ≡ true
    one = (can_pack_lem c e).0

    seen : number_timers (take n ns) ≡ column_timers c
    seen = ap number_timers p.numbers ∙ whole_timers _ (numbers_whole (column_timers c)) ∙ numbers_back (column_timers c)

    whole_before : whole (take n ns) ≡ true
    whole_before = ap whole p.numbers ∙ numbers_whole (column_timers c)

    same_call : call_ladder_scan vars k t (number_timers (take n ns)) now w ≡ called
    same_call = ap (λ ts. call_ladder_scan vars k t ts now w) seen

    numbers_now : ms ≡ timer_numbers called.timers
    numbers_now = s.numbers ∙ numbers_after_lem (take n ns) _ whole_before ∙ ap (λ x. timer_numbers x.timers) same_call

    timers_now : timers_in ms ≡ called.timers
    timers_now = ap timers_in numbers_now ∙ numbers_back called.timers

    kept_now : RecordsKept (column_timers c) called.timers
    kept_now = call_kept_lem vars k t (column_timers c) now w

    record_many : length ms ≡ 5 * length c.preset
    record_many =
        let joined = ap length (column_timers_lem c one) ∙ joined_length c.preset c.start c.variable c.running c.done in
        ap length numbers_now ∙ numbers_length called.timers ∙ ap (λ x. 5 * x) (kept_count kept_now ∙ joined)

    left_many : length ms ≡ n
    left_many = record_many ∙ sym p.count

    unpackable : Unpackable ms c.start c.running c.done
    unpackable =
        let l = one_length_lem c one in
        record {
          count = record_many ∙ ap (λ x. 5 * x) (sym l.start);
          runnings = l.running ∙ sym l.start;
          dones = l.done ∙ sym l.start;
          flags = rw timers_now (kept_now.bytes p.flags);
        }

    -- the numbers that were left, in the buffer
    module _ (rest : List ℕ) where
      part : take n (ms ++ rest) ≡ ms
      part = rw (← left_many) (take-append_seam ms rest)

      pub part_fits : n ≤ length (ms ++ rest)
      part_fits = let l = length-append ms rest in omega (arith, l, left_many)

      pub part_long : n ≡ length (take n (ms ++ rest))
      part_long = sym left_many ∙ ap length (sym part)

      pub part_unpackable : Unpackable (take n (ms ++ rest)) c.start c.running c.done
      part_unpackable = rw part unpackable

      pub columns_scanned : (start running done : List ℕ) → Unpacked (take n (ms ++ rest)) start running done → ScansColumns vars k t c now w r u (columns c.preset start c.variable running done)
      columns_scanned start running done h =
          let after = columns_left c called.timers start running done one (kept_now.same_presets ∙ presets_back c one) (kept_now.same_variables ∙ variables_back c one)
          (h.starts ∙ ap (map (λ x. x.start)) (ap timers_in part ∙ timers_now)) (h.runnings ∙ ap (map (λ x. x.running)) (ap timers_in part ∙ timers_now)) (h.dones ∙ ap (map (λ x. x.done)) (ap timers_in part ∙ timers_now)) in
          let d = s.done in
          record {
            done = record {
              answer = d.answer ∙ ap (λ x. x.answer) same_call;
              same_table = d.same_table ∙ ap (λ x. x.table) same_call;
              same_timers = ap column_timers (after ∙ columns_after_lem c called.timers one) ∙ timers_back called.timers;
            };
            slices = after;
          }
