-- A list and its rungs, each from the other; and the printed list, rung by rung. Assumes nothing.
use Rattle.std.specs.Prelude.{ℕ, ◌+◌, ◌≡◌, refl, T, length, take, drop}
use Rattle.std.proofs.Common.{arith, sym, ap, ◌∙◌, eqb→eq, length-take, length-drop, take-append-drop, drop-drop}
use mathlib.Core.List.{List, [], ◌∷◌, ◌++◌, map, flat_map}
use Rattle.std.proofs.Math.Seq.{take-append_seam, drop-append_seam, drop-length}
use Rattle.questions.proofs.Laws.Maps.{flat_map_append, flat_map_map}
use Rattle.rungs.specs.Records.{RungRecord, laid, lay}
use Rattle.rungs.proofs.Laws.Layout.{laid_next_lem, laid_most}
use Rattle.list_definitions.specs.Instruction.{Instr}
use Rattle.list_definitions.specs.Machine.{InstructionList}
use Rattle.list_definitions.specs.Names.{Names}
use Rattle.list_definitions.specs.Listing.{instr_line, listing_lines, ended, listing_text, label_line as label_text, rung_lines as printed_lines}
use Rattle.reader_definitions.specs.Form.{ListRung, list_of_rungs}
use Rattle.reader_definitions.proofs.Laws.Printed.{code_text, rung_text}

abbrev size_of : ListRung → ℕ
size_of g = length g.code

abbrev label_of : ListRung → ℕ
label_of g = g.label

-- the rung of a record, in some instructions
unfoldable pub rung_at : List Instr → RungRecord → ListRung
rung_at code r = record { label = r.label; code = take r.length (drop r.offset code) }

unfoldable pub rungs_in : InstructionList → List ListRung
rungs_in l = map (rung_at l.code) l.records

-- the rungs of the list of some rungs
rungs_back : (c : List Instr) (start : ℕ) (gs : List ListRung) → drop start c ≡ flat_map (λ g. g.code) gs → map (rung_at c) (lay label_of size_of start gs) ≡ gs
unfolding rung_at lay flat_map
rungs_back c start [] e = refl
rungs_back c start (g ∷ gs) e =
    let rest = flat_map (λ g. g.code) gs in
    let here : take (size_of g) (drop start c) ≡ g.code = ap (take (size_of g)) e ∙ take-append_seam g.code rest in
    let next : drop (start + size_of g) c ≡ rest = sym (drop-drop (size_of g) start c) ∙ (ap (drop (size_of g)) e ∙ drop-append_seam g.code rest) in
    rw (here, rungs_back c (start + size_of g) gs next) refl

pub rungs_of_list : (gs : List ListRung) → rungs_in (list_of_rungs gs) ≡ gs
unfolding rungs_in list_of_rungs
rungs_of_list gs = rungs_back (flat_map (λ g. g.code) gs) 0 gs refl

-- the list of the rungs of a list whose records are laid
list_back : (c : List Instr) (start : ℕ) (rs : List RungRecord) → T (laid start (length c) rs)
    → (flat_map (λ g. g.code) (map (rung_at c) rs) ≡ drop start c) × (lay label_of size_of start (map (rung_at c) rs) ≡ rs)
unfolding rung_at lay flat_map laid
list_back c start [] h = let e = eqb→eq start (length c) h in (rw e (sym (drop-length c)), refl)
list_back c start (r ∷ rs) h =
    let p = laid_next_lem start (length c) r rs h in
    let e : r.offset ≡ start = p.0 in
    let n = laid_most (start + r.length) (length c) rs p.1 in
    let ih = list_back c (start + r.length) rs p.1 in
    let size : length (take r.length (drop start c)) ≡ r.length = length-take r.length (drop start c) ∙ (let d = length-drop start c in omega arith) in
    let joined : take r.length (drop start c) ++ drop (start + r.length) c ≡ drop start c =
    ap (λ l. take r.length (drop start c) ++ l) (sym (drop-drop r.length start c)) ∙ take-append-drop r.length (drop start c) in
    (rw (ih.0, e) joined, rw (e, size, ih.1) refl)

pub list_of_rungs_lem : (l : InstructionList) → T (laid 0 (length l.code) l.records) → list_of_rungs (rungs_in l) ≡ l
unfolding rungs_in list_of_rungs
list_of_rungs_lem l h i = let b = list_back l.code 0 l.records h in record { code = b.0 i; records = b.1 i }

-- ---- the printed list, rung by rung

rung_text_lem : (names : Names) (vars : ℕ) (code : List Instr) (r : RungRecord) → flat_map ended (printed_lines names vars code r) ≡ rung_text names vars (rung_at code r)
unfolding printed_lines rung_text code_text rung_at flat_map
rung_text_lem names vars code r = ap (λ t. ended (label_text r.label) ++ t) (flat_map_map ended (instr_line names vars) (take r.length (drop r.offset code)))

lines_text : (names : Names) (vars : ℕ) (code : List Instr) (rs : List RungRecord)
    → flat_map ended (flat_map (printed_lines names vars code) rs) ≡ flat_map (rung_text names vars) (map (rung_at code) rs)
unfolding flat_map
lines_text names vars code [] = refl
lines_text names vars code (r ∷ rs) =
    flat_map_append ended (printed_lines names vars code r) (flat_map (printed_lines names vars code) rs)
    ∙ rw (rung_text_lem names vars code r, lines_text names vars code rs) refl

pub listing_text_lem : (names : Names) (vars : ℕ) (l : InstructionList) → listing_text names vars l ≡ flat_map (rung_text names vars) (rungs_in l)
unfolding listing_text listing_lines rungs_in
listing_text_lem names vars l = lines_text names vars l.code l.records
