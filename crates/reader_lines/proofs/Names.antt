-- Laws of a name compared with a word, and of the op that has it. Assumes nothing.
use Prim.Native.Nat.{ℕ, zero, suc, ◌+◌, ◌-◌, ◌*◌, ◌≤◌, ◌<◌}
use native.Mathlib.Omega.{arith}
use native.Mathlib.Numerals.{add-one}
use native.Mathlib.Decide.{dec_lt}
use mathlib.Core.Path.{◌≡◌, refl, sym, ap, ◌∙◌}
use mathlib.Core.Bool.{Bool, true, false}
use mathlib.Core.Option.{some}
use mathlib.Core.List.{List, [], ◌∷◌}
use borrow.Author.Tests.{eq-eqb, ne_eqb}
use lib.Dec.{eqb}
use lib.ListN.{length, get_or, take, drop, drop_of_length-le}
use lib.Seq.{drop-cons, drop-drop}
use Rattle.std.specs.Prelude.{Option, Some, None}
use Rattle.questions.specs.Bytes.{same_bytes}
use Rattle.text_grammar.proofs.Laws.Spans.{inside}
use Rattle.list_definitions.specs.Names.{trimmed, name_bytes, most_op, names_from, names_in}
use Rattle.list_ops.specs.Ops.{numbered}
use Rattle.list_ops.specs.declared.Op.{Op}
use Rattle.list_ops.proofs.Laws.Ops.{number_told, none_numbered}
use Rattle.reader_definitions.specs.Reader.{op_named}
use Rattle.reader_lines.specs.Parts.{op_case, OpFound}

-- ---- a name and a word

trim_stop : (t : List ℕ) (n i : ℕ) → get_or t i 0 ≡ 0 → trimmed (take n (drop i t)) ≡ []
unfolding trimmed
trim_stop t zero i e = refl
trim_stop t (suc n) i e = elim (dec_lt i (length t)) [
  | yes h ↦ rw (drop-cons t i 0 h, e) refl
  | no h ↦ rw (drop_of_length-le t {i = i} (omega arith)) refl
]

trim_more : (t : List ℕ) (n i : ℕ) → 0 < get_or t i 0 → trimmed (take (suc n) (drop i t)) ≡ get_or t i 0 ∷ trimmed (take n (drop (suc i) t))
unfolding trimmed
trim_more t n i e = let h = inside t i e in rw (drop-cons t i 0 h, ne_eqb (get_or t i 0) 0 (λ z. omega arith), trimmed)

none_left : (w : List ℕ) (place : ℕ) → place ≤ length w → eqb place (length w) ≡ same_bytes [] (drop place w)
unfolding same_bytes
none_left w place h = elim (dec_lt place (length w)) [
  | yes k ↦ rw (drop-cons w place 0 k, ne_eqb place (length w) (λ z. omega arith)) refl
  | no k ↦ let z : place ≡ length w = omega arith in rw (drop_of_length-le w {i = place} (omega arith), eq-eqb place (length w) z) refl
]

-- the bytes before a place are the same, so the rest decides
pub record Comparing (t : List ℕ) (from : ℕ) (w : List ℕ) (place : ℕ) : Type 0 where
  pub same : same_bytes (trimmed (take (name_bytes - place) (drop (from + place) t))) (drop place w) ≡ same_bytes (trimmed (take name_bytes (drop from t))) w
  pub within : place ≤ length w

pub compare_start : (t : List ℕ) (from : ℕ) (w : List ℕ) → Comparing t from w 0
compare_start t from w = let y : from + 0 ≡ from = omega arith in record { same = rw y refl; within = omega arith }

module _ (t : List ℕ) (from : ℕ) (w : List ℕ) (place : ℕ) (i : Comparing t from w place) where
  pub compare_end : place ≡ name_bytes → eqb name_bytes (length w) ≡ same_bytes (trimmed (take name_bytes (drop from t))) w
  unfolding trimmed
  compare_end h =
      let z : name_bytes - place ≡ 0 = omega arith in
      let e : eqb place (length w) ≡ same_bytes (trimmed (take name_bytes (drop from t))) w = none_left w place i.within ∙ (rw z refl ∙ i.same) in
      rw h at e

  module _ (b : ℕ) (q : b ≡ get_or t (from + place) 0) where
    pub compare_stop : b ≡ 0 → eqb place (length w) ≡ same_bytes (trimmed (take name_bytes (drop from t))) w
    compare_stop e = none_left w place i.within ∙ rw (← i.same, trim_stop t (name_bytes - place) (from + place) (sym q ∙ e)) refl

    module _ (h : place < name_bytes) (e : b ≡ 0 → ⊥) (c : ℕ) (r : c ≡ get_or w place 0) where
      some_byte : 0 < b
      some_byte = elim (dec_lt 0 b) [ yes p ↦ p | no p ↦ absurd (e (omega arith)) ]

      name_more : trimmed (take (name_bytes - place) (drop (from + place) t)) ≡ b ∷ trimmed (take (name_bytes - (place + 1)) (drop (from + (place + 1)) t))
      name_more =
          let z : name_bytes - place ≡ suc (name_bytes - (place + 1)) = omega arith in
          let y : from + (place + 1) ≡ suc (from + place) = omega arith in
          let p = some_byte in
          rw (z, y, q) (trim_more t (name_bytes - (place + 1)) (from + place) (rw (← q) p))

      pub compare_differ : (c ≡ b → ⊥) → false ≡ same_bytes (trimmed (take name_bytes (drop from t))) w
      unfolding same_bytes
      compare_differ d = elim (dec_lt place (length w)) [
        | yes k ↦ rw (← i.same, name_more, drop-cons w place 0 k, ← r, ne_eqb b c (λ z. d (sym z))) refl
        | no k ↦ rw (← i.same, name_more, drop_of_length-le w {i = place} (omega arith)) refl
      ]

      pub compare_more : c ≡ b → Comparing t from w (place + 1)
      unfolding same_bytes
      compare_more d =
          let p = some_byte in
          let k : place < length w = inside w place (rw (← r, d) p) in
          record { same = sym (rw (name_more, drop-cons w place 0 k, ← r, eq-eqb b c (sym d), add-one) refl) ∙ i.same; within = omega arith }

-- ---- an op by its name

-- the names before a place are others
abbrev pub Searching : List ℕ → List ℕ → ℕ → Type 0
Searching t w place = (op_named (place + 1) (names_from (most_op - place) (drop (name_bytes * place) t)) w ≡ op_named 1 (names_in t) w) × (place ≤ most_op)

pub search_start : (t w : List ℕ) → Searching t w 0
search_start t w = (refl, omega arith)

module _ (t w : List ℕ) (place : ℕ) (i : Searching t w place) where
  module _ (h : place < most_op) (b : Bool) (q : b ≡ same_bytes (trimmed (take name_bytes (drop (name_bytes * place) t))) w) where
    pub search_found : b ≡ true → (r : Option Op) → r ≡ numbered (place + 1) → OpFound (names_in t) w r
    unfolding op_named names_from
    search_found e r f = record { same = found r f ∙ step ∙ i.0 }
      where
        found : (r : Option Op) → r ≡ numbered (place + 1) → op_case r ≡ some (place + 1)
        found (Some op) f = ap some (sym (number_told (sym f)))
        found None f = let l = none_numbered (sym f) (omega arith) in absurd (omega arith)

        step : some (place + 1) ≡ op_named (place + 1) (names_from (most_op - place) (drop (name_bytes * place) t)) w
        step = let z : most_op - place ≡ suc (most_op - (place + 1)) = omega arith in rw (z, ← q, e) refl

    pub search_more : b ≡ false → Searching t w (place + 1)
    unfolding op_named names_from
    search_more e = (sym step ∙ i.0, omega arith)
      where
        step : op_named (place + 1) (names_from (most_op - place) (drop (name_bytes * place) t)) w
            ≡ op_named (place + 1 + 1) (names_from (most_op - (place + 1)) (drop (name_bytes * (place + 1)) t)) w
        step =
            let z : most_op - place ≡ suc (most_op - (place + 1)) = omega arith in
            let a : suc (place + 1) ≡ place + 1 + 1 = omega arith in
            let y : drop 6 (drop (name_bytes * place) t) ≡ drop (name_bytes * (place + 1)) t = drop-drop 6 (name_bytes * place) t ∙ ap (λ i. drop i t) (omega arith) in
            rw (z, ← q, e, y, a) refl

  pub search_end : most_op ≤ place → OpFound (names_in t) w None
  unfolding op_named names_from
  search_end h = let z : most_op - place ≡ 0 = omega arith in record { same = (rw z refl) ∙ i.0 }
