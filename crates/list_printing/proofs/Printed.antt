-- Laws of the printed list: texts written one after the other, how long they are, and the words and records that they print. Assumes nothing.
use mathlib.Core.Path.{◌≡◌, refl, ap, ◌∙◌}
use mathlib.Core.Bool.{Bool, true, false}
use mathlib.Core.Option.{Option, none, some}
use mathlib.Core.List.{List, [], ◌∷◌, ◌++◌, map, flat_map}
use Rattle.std.specs.List.{position}
use Rattle.std.proofs.Math.ListN.{length-take, length-drop}
use Rattle.std.specs.Option.{unwrap_or}
use Prim.Native.Nat.{ℕ, suc, ◌+◌, ◌-◌, ◌*◌, ◌≤◌, ◌<◌}
use native.Mathlib.Numerals.{add-one}
use native.Mathlib.Omega.{arith}
use borrow.Author.Tests.{lt-ltb, le-ltb, ltb-true, ltb-false}
use lib.Dec.{T, ltb, eqb}
use lib.ListN.{length, get_or, take, drop, length-append, drop_of_length-le}
use lib.Seq.{drop-cons, get_or-take, get_or-drop}
use Rattle.questions.proofs.Laws.Maps.{take_map, drop_map, flat_map_append}
use Rattle.questions.specs.Bytes.{byte, decimal}
use Rattle.rungs.specs.Words.{operands, number_of, operand_of}
use Rattle.rungs.specs.Records.{RungRecord, laid, fields_of}
use Rattle.list_definitions.specs.Instruction.{Instr, LD, LDN, ST, STN, AND, ANDN, OR, ORN, XOR, XORN, NOT, JMP, JMPC, JMPCN, S, R, TON, operand, instr_fits, op_of, operand_number, instr_word, only_not, ops, decode_instr, code_of, OperandSort, table_sort, nothing_sort, instruction_sort, timer_sort, no_sort, sort_of, operand_sort}
use Rattle.list_definitions.proofs.Laws.Decoding.{number_small, instr_decoded}
use Rattle.list_definitions.specs.Questions.{list_in_range}
use Rattle.list_definitions.specs.ListScan.{list_of}
use Rattle.list_definitions.specs.Names.{Names, name_of, most_op, names_in}
use Rattle.list_definitions.proofs.Laws.Names.{trimmed_long, name_at_lem, name_short, op_in_table}
use Rattle.list_definitions.specs.Listing.{operand_text, instr_line, label_line, rung_lines, listing_lines, ended, listing_text}
use Rattle.rungs.proofs.Laws.Rows.{row_length, row_at}
use Rattle.rungs.proofs.Laws.Layout.{laid_next_lem, laid_most}
use Rattle.list_printing.proofs.Accepting.{ListAccepted, list_accepted}
use Rattle.list_names.proofs.Letters.{trimmed_taken}
use Rattle.printing.specs.Put.{Put}
use Rattle.printing.proofs.Laws.Puts.{put_then, put_as, Left, all_left, left_none, left_more, decimal_long}
use Rattle.list_definitions.specs.Decoding.{instr_of, Decodes}
use Rattle.list_printing.specs.Parts.{word_line, word_lines, operand_in, operand_by, RungReady}

-- The names.

-- names of at most six letters
abbrev pub Short : Names → Type 0
Short names = (k : ℕ) → length (get_or names k []) ≤ 6

pub name_long : (names : Names) → Short names → (op : ℕ) → length (name_of names op) ≤ 6
unfolding name_of
name_long names short op = omega (arith, short (op - 1), trimmed_long (get_or names (op - 1) []))

-- how far a table's name reaches
pub name_reach : (table : List ℕ) (op : ℕ) {l : List ℕ} {at r : ℕ} {x : List ℕ} → Put l at (name_of (names_in table) op) r x → r ≤ at + 6
name_reach table op p = omega (arith, p.end, name_long (names_in table) (name_short most_op table) op)

-- the name of an op in a table, by where its filling begins
pub name_taken : (table : List ℕ) (op n : ℕ) → 1 ≤ op → op ≤ most_op → length table ≡ 6 * most_op → n ≡ 6
    → let name = take n (drop ((op - 1) * 6) table) in name_of (names_in table) op ≡ take (unwrap_or (position (λ b. eqb b 0) name) 6) name
unfolding name_of
name_taken table op n l h e six =
    let name = take 6 (drop ((op - 1) * 6) table) in
    let at : get_or (names_in table) (op - 1) [] ≡ name = name_at_lem most_op table (op - 1) (omega arith) ∙ (let q : 6 * (op - 1) ≡ (op - 1) * 6 = omega arith in rw q refl) in
    let long : length name ≡ 6 = simp (length-take, length-drop) (omega (arith, e)) in
    rw (six, at, trimmed_taken name, long) refl

-- The operands, by the sort of their op.

module _ (vars op x : ℕ) where
  pub operand_none : nothing_sort ≡ operand_sort op → operand_by vars op x ≡ []
  unfolding operand_by operand_in operand_text
  operand_none h = rw (← h) refl

  pub operand_absent : no_sort ≡ operand_sort op → operand_by vars op x ≡ []
  unfolding operand_by operand_in operand_text
  operand_absent h = rw (← h) refl

  pub operand_index : instruction_sort ≡ operand_sort op → operand_by vars op x ≡ byte " " ∷ byte "@" ∷ decimal x
  unfolding operand_by operand_in operand_text
  operand_index h = rw (← h) refl

  pub operand_timer : timer_sort ≡ operand_sort op → operand_by vars op x ≡ byte " " ∷ byte "d" ∷ decimal x
  unfolding operand_by operand_in operand_text
  operand_timer h = rw (← h) refl

  pub operand_variable : table_sort ≡ operand_sort op → x < vars → operand_by vars op x ≡ byte " " ∷ byte "v" ∷ decimal x
  unfolding operand_by operand_in operand_text
  operand_variable h l = rw (← h) (rw (operand_text, lt-ltb x vars l) refl)

  pub operand_scratch : table_sort ≡ operand_sort op → vars ≤ x → operand_by vars op x ≡ byte " " ∷ byte "t" ∷ decimal (x - vars)
  unfolding operand_by operand_in operand_text
  operand_scratch h l = rw (← h) (rw (operand_text, le-ltb x vars l) refl)

pub operand_long : (vars op x : ℕ) → x < operands → length (operand_by vars op x) ≤ 7
operand_long vars op x h = go (operand_sort op) refl (ltb x vars) refl
  where
    go : (s : OperandSort) → s ≡ operand_sort op → (b : Bool) → ltb x vars ≡ b → length (operand_by vars op x) ≤ 7
    go table_sort p true q = let k = decimal_long x h in rw (operand_variable vars op x p (ltb-true x vars q)) (omega arith)
    go table_sort p false q = let k = decimal_long (x - vars) (omega arith) in rw (operand_scratch vars op x p (ltb-false x vars q)) (omega arith)
    go nothing_sort p b q = rw (operand_none vars op x p) (omega arith)
    go instruction_sort p b q = let k = decimal_long x h in rw (operand_index vars op x p) (omega arith)
    go timer_sort p b q = let k = decimal_long x h in rw (operand_timer vars op x p) (omega arith)
    go no_sort p b q = rw (operand_absent vars op x p) (omega arith)

-- The lines of words.

operand_by_op : (vars : ℕ) (i : Instr) → operand_text vars (operand i) ≡ operand_by vars (op_of i) (operand_number (operand i))
unfolding operand op_of operand_number operand_by operand_in operand_sort ops only_not sort_of
operand_by_op vars (LD x) = refl
operand_by_op vars (LDN x) = refl
operand_by_op vars (ST x) = refl
operand_by_op vars (STN x) = refl
operand_by_op vars (AND x) = refl
operand_by_op vars (ANDN x) = refl
operand_by_op vars (OR x) = refl
operand_by_op vars (ORN x) = refl
operand_by_op vars (XOR x) = refl
operand_by_op vars (XORN x) = refl
operand_by_op vars NOT = refl
operand_by_op vars (JMP j) = refl
operand_by_op vars (JMPC j) = refl
operand_by_op vars (JMPCN j) = refl
operand_by_op vars (S x) = refl
operand_by_op vars (R x) = refl
operand_by_op vars (TON n) = refl

word_parts : (w : ℕ) (d : Decodes w) → (number_of w ≡ op_of d.instr) × (operand_of w ≡ operand_number (operand d.instr))
unfolding instr_word instr_fits
word_parts w d =
    let s = instr_decoded w d.instr d.same in
    let f = number_small (operand d.instr) s.1 in
    (omega (arith, s.0), omega (arith, s.0))

pub word_op : (w : ℕ) → Decodes w → (1 ≤ number_of w) × (number_of w ≤ most_op)
word_op w d = rw (word_parts w d).0 (op_in_table d.instr)

pub word_line_lem : (names : Names) (vars w : ℕ) → Decodes w → word_line names vars w ≡ name_of names (number_of w) ++ operand_by vars (number_of w) (operand_of w) ++ 10 ∷ []
unfolding word_line instr_of ended instr_line
word_line_lem names vars w d = rw (d.same, instr_of, (word_parts w d).0, (word_parts w d).1, operand_by_op vars d.instr)

module _ (names : Names) (short : Short names) where
  no_word_long : (vars w : ℕ) → decode_instr w ≡ none → length (word_line names vars w) ≤ 14
  unfolding word_line instr_of ended instr_line operand operand_text op_of
  no_word_long vars w e = let n = name_long names short 11 in rw (e, instr_of) (simp length-append (omega arith))

  pub word_long : (vars w : ℕ) → length (word_line names vars w) ≤ 14
  word_long vars w = go (decode_instr w) refl
    where
      go : (x : Option Instr) → decode_instr w ≡ x → length (word_line names vars w) ≤ 14
      go none e = no_word_long vars w e
      go (some i) e =
          let n = name_long names short (number_of w) in
          let o = operand_long vars (number_of w) (operand_of w) (omega arith) in
          rw (word_line_lem names vars w (record { instr = i; same = e }), length-append, length-append) (omega arith)

  pub words_long : (vars : ℕ) (ws : List ℕ) → length (word_lines names vars ws) ≤ 14 * length ws
  unfolding word_lines flat_map
  words_long vars [] = omega arith
  words_long vars (w ∷ ws) =
      let one = word_long vars w in
      let more = words_long vars ws in
      rw (length-append (word_line names vars w) (word_lines names vars ws)) (omega arith)

-- words of which those below i are printed
pub record Printing (names : Names) (vars : ℕ) (ws : List ℕ) (at : ℕ) (l x : List ℕ) (m i : ℕ) : Type 0 where
  pub left : Left l at (word_lines names vars ws) x m (word_lines names vars (drop i ws))
  pub within : i ≤ length ws
  pub room : m + 14 * (length ws - i) < 500000

pub printing_start : {names : Names} {vars : ℕ} {ws : List ℕ} {at : ℕ} (l : List ℕ) → RungReady vars ws at → Printing names vars ws at l l at 0
printing_start {names} {vars} {ws} {at} l h = record { left = all_left l at (word_lines names vars ws); within = omega arith; room = omega (arith, h.room) }

module _ {names : Names} {vars : ℕ} {ws : List ℕ} {at : ℕ} {l x : List ℕ} {m i : ℕ} (h : Printing names vars ws at l x m i) where
  pub printing_more : Short names → {r : ℕ} {y : List ℕ} → i < length ws → Put x m (word_line names vars (get_or ws i 0)) r y → Printing names vars ws at l y r (i + 1)
  unfolding word_lines flat_map
  printing_more short lt p =
      let n = word_long names short vars (get_or ws i 0) in
      record {
        left = rw add-one (left_more h.left (rw (drop-cons ws i 0 lt)) p);
        within = omega arith;
        room = omega (arith, p.end, h.room);
      }

  pub printing_end : length ws ≤ i → Put l at (word_lines names vars ws) m x
  unfolding word_lines flat_map
  printing_end le = left_none h.left (rw (drop_of_length-le ws le))

-- The text of records over words.

lines_of_words : (names : Names) (vars : ℕ) (ws : List ℕ) → flat_map ended (map (instr_line names vars) (map instr_of ws)) ≡ word_lines names vars ws
unfolding flat_map word_lines word_line
lines_of_words names vars [] = refl
lines_of_words names vars (w ∷ ws) = ap (λ l. word_line names vars w ++ l) (lines_of_words names vars ws)

-- a label's line and its words' lines, record by record
unfoldable pub rungs_text : Names → ℕ → List ℕ → List RungRecord → List ℕ
rungs_text names vars ws [] = []
rungs_text names vars ws (r ∷ rs) = ended (label_line r.label) ++ word_lines names vars (take r.length (drop r.offset ws)) ++ rungs_text names vars ws rs

rung_text_lem : (names : Names) (vars : ℕ) (ws : List ℕ) (r : RungRecord) → code_of ws ≡ map instr_of ws
    → flat_map ended (rung_lines names vars (code_of ws) r) ≡ ended (label_line r.label) ++ word_lines names vars (take r.length (drop r.offset ws))
unfolding flat_map rung_lines
rung_text_lem names vars ws r e =
    rw (e, drop_map instr_of r.offset ws, take_map instr_of r.length (drop r.offset ws), lines_of_words names vars (take r.length (drop r.offset ws)))

listing_text_lem : (names : Names) (vars : ℕ) (ws : List ℕ) (rs : List RungRecord) → code_of ws ≡ map instr_of ws → listing_text names vars (list_of ws rs) ≡ rungs_text names vars ws rs
unfolding listing_text listing_lines list_of rungs_text flat_map
listing_text_lem names vars ws [] e = refl
listing_text_lem names vars ws (r ∷ rs) e =
    flat_map_append ended (rung_lines names vars (code_of ws) r) (flat_map (rung_lines names vars (code_of ws)) rs)
    ∙ rw (rung_text_lem names vars ws r e, listing_text_lem names vars ws rs e)

-- records of which the first k are printed
pub record Listing (names : Names) (vars : ℕ) (ws ls os ns l x : List ℕ) (m start k : ℕ) : Type 0 where
  pub can : ListAccepted vars ws ls os ns
  pub left : Left l 0 (rungs_text names vars ws (fields_of ls os ns)) x m (rungs_text names vars ws (drop k (fields_of ls os ns)))
  pub lies : T (laid start (length ws) (drop k (fields_of ls os ns)))
  pub within : start ≤ length ws
  pub room : m ≤ 8 * k + 14 * start
  pub passed : k ≤ length ls

pub listing_start : (names : Names) (vars : ℕ) (ws ls os ns l : List ℕ) → T (list_in_range vars ws (fields_of ls os ns)) → Listing names vars ws ls os ns l l 0 0 0
listing_start names vars ws ls os ns l h =
    let p = list_accepted vars ws ls os ns h in
    record {
      can = p;
      left = all_left l 0 (rungs_text names vars ws (fields_of ls os ns));
      lies = p.lies;
      within = omega arith;
      room = omega arith;
      passed = omega arith;
    }

label_long : (n : ℕ) → n < operands → length (ended (label_line n)) ≤ 8
unfolding ended label_line
label_long n h = let d = decimal_long n h in simp length-append (omega arith)

module _ {names : Names} {vars : ℕ} {ws ls os ns l x : List ℕ} {m start k : ℕ} (h : Listing names vars ws ls os ns l x m start k) (lt : k < length ls) where
  next_lies : (get_or os k 0 ≡ start) × T (laid (start + get_or ns k 0) (length ws) (drop (suc k) (fields_of ls os ns)))
  next_lies = laid_next_lem start (length ws) (record { label = get_or ls k 0; offset = get_or os k 0; length = get_or ns k 0 }) (drop (suc k) (fields_of ls os ns)) (rw (row_at ls os ns h.can.even k lt) at h.lies)

  pub next_within : start + get_or ns k 0 ≤ length ws
  next_within = laid_most (start + get_or ns k 0) (length ws) (drop (suc k) (fields_of ls os ns)) next_lies.1

  rung_long : length (take (get_or ns k 0) (drop start ws)) ≡ get_or ns k 0
  rung_long = let w = next_within in simp (length-take, length-drop) (omega arith)

  module _ {n : ℕ} {y : List ℕ} (p : Put x m (ended (label_line (get_or ls k 0))) n y) (small : get_or ls k 0 < operands) where
    pub next_ready : RungReady vars (take (get_or ns k 0) (drop start ws)) n
    next_ready =
        let w = next_within in
        let s = label_long (get_or ls k 0) small in
        record {
          room = omega (arith, rung_long, p.end, h.room, h.can.code_most, h.can.records_most);
          decodes = λ i l. let e : get_or (take (get_or ns k 0) (drop start ws)) i 0 ≡ get_or ws (start + i) 0 = get_or-take (get_or ns k 0) (drop start ws) i 0 (omega (arith, rung_long)) ∙ get_or-drop start ws i 0 in rw e (h.can.decodes (start + i) (omega (arith, rung_long)));
        }

    pub listing_more : Short names → {r : ℕ} {z : List ℕ} → Put y n (word_lines names vars (take (get_or ns k 0) (drop start ws))) r z → Listing names vars ws ls os ns l z r (start + get_or ns k 0) (k + 1)
    unfolding rungs_text
    listing_more short q =
        let w = next_within in
        let s = label_long (get_or ls k 0) small in
        let t = words_long names short vars (take (get_or ns k 0) (drop start ws)) in
        let u = rung_long in
        let e : rungs_text names vars ws (drop k (fields_of ls os ns)) ≡ ended (label_line (get_or ls k 0)) ++ word_lines names vars (take (get_or ns k 0) (drop start ws)) ++ rungs_text names vars ws (drop (suc k) (fields_of ls os ns)) = rw (row_at ls os ns h.can.even k lt, next_lies.0) in
        record {
          can = h.can;
          left = rw add-one (left_more h.left e (put_then p q));
          lies = rw add-one next_lies.1;
          within = w;
          room = omega (arith, p.end, q.end, h.room);
          passed = omega arith;
        }

pub listing_end : {names : Names} {vars : ℕ} {ws ls os ns l x : List ℕ} {m start k : ℕ} → Listing names vars ws ls os ns l x m start k → length ls ≤ k → Put l 0 (listing_text names vars (list_of ws (fields_of ls os ns))) m x
unfolding rungs_text
listing_end {names} {vars} {ws} {ls} {os} {ns} {l} {x} {m} {start} {k} h le =
    put_as (listing_text_lem names vars ws (fields_of ls os ns) h.can.printed) (left_none h.left (rw (drop_of_length-le (fields_of ls os ns) {i = k} (omega (arith, row_length ls os ns h.can.even)))))
