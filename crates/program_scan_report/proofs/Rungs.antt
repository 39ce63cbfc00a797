-- Laws of the rungs' lines of the report: the parts of a line put one after the other, the lines from any rung on, and how far they reach. Assumes nothing.
use Prim.Native.Nat.{ℕ, suc, ◌+◌, ◌*◌, ◌^◌, ◌≤◌, ◌<◌, min}
use native.Mathlib.Decide.{dec_le}
use native.Mathlib.Numerals.{add-one}
use native.Mathlib.Omega.{arith}
use mathlib.Core.Path.{◌≡◌, refl}
use mathlib.Core.Bool.{Bool, true, false}
use mathlib.Core.List.{List, [], ◌∷◌, ◌++◌}
use borrow.Author.Tests.{eq-eqb, ne_eqb}
use lib.Dec.{eqb}
use lib.ListN.{length, get_or, drop, length-append, drop_of_length-le}
use lib.Seq.{drop-cons}
use Rattle.questions.specs.Bytes.{bytes, decimal}
use Rattle.printing.specs.Put.{Put}
use Rattle.printing.proofs.Laws.Puts.{put_none, put_then, Left, all_left, left_none, left_more, decimal_long, decimal_most}
use Rattle.program_definitions.specs.Scanout.{entered_line, entered_lines}

module _ {l : List ℕ} {i m1 m2 m3 m4 r : ℕ} {x1 x2 x3 x4 y : List ℕ} where
  pub entered_put : (label times : ℕ)
      → Put l i (bytes "L") m1 x1 → Put x1 m1 (decimal label) m2 x2 → Put x2 m2 (bytes " - ") m3 x3 → Put x3 m3 (decimal times) m4 x4 → Put x4 m4 (bytes "\n") r y
      → Put l i (entered_line label times) r y
  unfolding entered_line
  entered_put label times p1 p2 p3 p4 p5 = put_then p1 (put_then p2 (put_then p3 (put_then p4 p5)))

line_long : (label times : ℕ) → label < 65536 → times < 2 ^ 64 → length (entered_line label times) ≤ 30
unfolding entered_line bytes
line_long label times h k =
    let a = decimal_long label h in
    let b = decimal_most times k in
    simp length-append (omega arith)

no_times : (ls : List ℕ) → entered_lines ls [] ≡ []
unfolding entered_lines
no_times [] = refl
no_times (l ∷ ls) = refl

-- the rungs below `i` are passed
pub record Entering (from : ℕ) (ls ns l x : List ℕ) (m i : ℕ) : Type 0 where
  pub left : Left l from (entered_lines ls ns) x m (entered_lines (drop i ls) (drop i ns))
  pub within : i ≤ length ls
  pub room : m ≤ from + 30 * i

pub entering_start : (from : ℕ) (ls ns l : List ℕ) → Entering from ls ns l l from 0
entering_start from ls ns l = record { left = all_left l from (entered_lines ls ns); within = omega arith; room = omega arith }

module _ {from : ℕ} {ls ns l x : List ℕ} {m i : ℕ} (h : Entering from ls ns l x m i) where
  pub entering_end : i ≡ min (length ls) (length ns) → Put l from (entered_lines ls ns) m x
  unfolding entered_lines
  entering_end g = left_none h.left (go (dec_le (length ls) i))
    where
      go : Dec (length ls ≤ i) → entered_lines (drop i ls) (drop i ns) ≡ []
      go (yes k) = rw (drop_of_length-le ls k, entered_lines)
      go (no k) = rw (drop_of_length-le ns {i = i} (omega arith)) (no_times (drop i ls))

  module _ (kl : i < length ls) (kn : i < length ns) where
    next_line : entered_lines (drop i ls) (drop i ns)
        ≡ elim (eqb (get_or ns i 0) 0) [ true ↦ [] | false ↦ entered_line (get_or ls i 0) (get_or ns i 0) ] ++ entered_lines (drop (suc i) ls) (drop (suc i) ns)
    unfolding entered_lines
    next_line = rw (drop-cons ls i 0 kl, drop-cons ns i 0 kn, entered_lines)

    pub entering_none : get_or ns i 0 ≡ 0 → Entering from ls ns l x m (i + 1)
    entering_none e =
        record {
          left = rw add-one (left_more h.left {a = []} (rw (eq-eqb (get_or ns i 0) 0 e) at next_line) (put_none x m));
          within = omega arith;
          room = omega (arith, h.room);
        }

    pub entering_more : {r : ℕ} {y : List ℕ} → (get_or ns i 0 ≡ 0 → ⊥) → get_or ls i 0 < 65536 → get_or ns i 0 < 2 ^ 64
        → Put x m (entered_line (get_or ls i 0) (get_or ns i 0)) r y → Entering from ls ns l y r (i + 1)
    entering_more e hl hn p =
        let s = line_long (get_or ls i 0) (get_or ns i 0) hl hn in
        record {
          left = rw add-one (left_more h.left (rw (ne_eqb (get_or ns i 0) 0 e) at next_line) p);
          within = omega arith;
          room = omega (arith, p.end, h.room);
        }

-- ---- how far all the lines reach

abbrev line_of : ℕ → ℕ → List ℕ
line_of label times = elim (eqb times 0) [ true ↦ [] | false ↦ entered_line label times ]

one_long : (label times : ℕ) → label < 65536 → times < 2 ^ 64 → length (line_of label times) ≤ 30
one_long label times h k = go (eqb times 0)
  where
    go : (none : Bool) → length {A = ℕ} (elim none [ true ↦ [] | false ↦ entered_line label times ]) ≤ 30
    go true = omega arith
    go false = line_long label times h k

lines_long : (ls ns : List ℕ) → ((k : ℕ) → get_or ls k 0 < 65536) → ((k : ℕ) → get_or ns k 0 < 2 ^ 64) → length (entered_lines ls ns) ≤ 30 * length ls
unfolding entered_lines
lines_long [] ns hl hn = omega arith
lines_long (l ∷ ls) [] hl hn = omega arith
lines_long (l ∷ ls) (n ∷ ns) hl hn =
    let one = one_long l n (hl 0) (hn 0) in
    let more = lines_long ls ns (λ k. hl (suc k)) (λ k. hn (suc k)) in
    rw (length-append (line_of l n) (entered_lines ls ns)) (omega arith)

pub rungs_reach : {l : List ℕ} {i r : ℕ} {x : List ℕ} (ls ns : List ℕ) → Put l i (entered_lines ls ns) r x → length ls ≤ 256 → i ≤ 1000
    → ((k : ℕ) → get_or ls k 0 < 65536) → ((k : ℕ) → get_or ns k 0 < 2 ^ 64) → r ≤ 10000
rungs_reach ls ns p few from hl hn = omega (arith, p.end, lines_long ls ns hl hn)
