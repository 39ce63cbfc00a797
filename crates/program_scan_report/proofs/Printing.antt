-- Laws of the lines of the report: how far they reach, their parts put one after the other, and the variables' lines from any variable on. Assumes nothing.
use Prim.Native.Nat.{ℕ, zero, suc, ◌+◌, ◌*◌, ◌≤◌, ◌<◌, min}
use native.Mathlib.Decide.{dec_le}
use native.Mathlib.Numerals.{add-one}
use native.Mathlib.Omega.{arith}
use mathlib.Core.Path.{◌≡◌, refl, sym, subst}
use mathlib.Core.Bool.{Bool, true, false, not, ◌&&◌, ◌||◌}
use mathlib.Core.List.{List, [], ◌∷◌, ◌++◌}
use lib.Dec.{T, eqb}
use lib.ListN.{length, get_or, take, drop, length-append}
use Rattle.questions.specs.Bytes.{bytes, decimal}
use Rattle.ladder_definitions.specs.LadderScan.{LadderCounts}
use Rattle.list_definitions.specs.ListScan.{ListCounts}
use Rattle.printing.specs.Put.{Put}
use Rattle.printing.proofs.Laws.Puts.{put_then, Left, all_left, left_none, left_more, decimal_long}
use Rattle.translation_definitions.specs.BothScans.{BothEnds}
use Rattle.program_definitions.specs.Scanout.{end_word, scan_count_lines, end_lines, changed_line, changed_lines, Verdict, verdict_line}

module _ {l : List ℕ} {i m1 m2 m3 m4 m5 m6 m7 m8 m9 m10 r : ℕ} {x1 x2 x3 x4 x5 x6 x7 x8 x9 x10 y : List ℕ} where
  pub counts_put : (k : LadderCounts) (c : ListCounts)
      → Put l i (bytes "rungs ") m1 x1 → Put x1 m1 (decimal k.rungs) m2 x2 → Put x2 m2 (bytes " ") m3 x3 → Put x3 m3 (decimal c.rungs) m4 x4
      → Put x4 m4 (bytes "\ninstructions - ") m5 x5 → Put x5 m5 (decimal c.instructions) m6 x6 → Put x6 m6 (bytes "\nmoved ") m7 x7
      → Put x7 m7 (decimal k.moved) m8 x8 → Put x8 m8 (bytes " ") m9 x9 → Put x9 m9 (decimal c.moved) m10 x10 → Put x10 m10 (bytes "\n") r y
      → Put l i (scan_count_lines k c) r y
  unfolding scan_count_lines
  counts_put k c p1 p2 p3 p4 p5 p6 p7 p8 p9 p10 p11 =
      put_then p1 (put_then p2 (put_then p3 (put_then p4 (put_then p5 (put_then p6 (put_then p7 (put_then p8 (put_then p9 (put_then p10 p11)))))))))

  pub changed_put : (v b a t : ℕ)
      → Put l i (bytes "v") m1 x1 → Put x1 m1 (decimal v) m2 x2 → Put x2 m2 (bytes " ") m3 x3 → Put x3 m3 (decimal b) m4 x4 → Put x4 m4 (bytes ">") m5 x5
      → Put x5 m5 (decimal a) m6 x6 → Put x6 m6 (bytes " ") m7 x7 → Put x7 m7 (decimal b) m8 x8 → Put x8 m8 (bytes ">") m9 x9 → Put x9 m9 (decimal t) m10 x10
      → Put x10 m10 (bytes "\n") r y → Put l i (changed_line v b a t) r y
  unfolding changed_line
  changed_put v b a t p1 p2 p3 p4 p5 p6 p7 p8 p9 p10 p11 =
      put_then p1 (put_then p2 (put_then p3 (put_then p4 (put_then p5 (put_then p6 (put_then p7 (put_then p8 (put_then p9 (put_then p10 p11)))))))))

module _ {l : List ℕ} {i m1 m2 m3 m4 m5 r : ℕ} {x1 x2 x3 x4 x5 y : List ℕ} where
  pub ends_put : (e : BothEnds)
      → Put l i (bytes "scan ladder list\nend ") m1 x1 → Put x1 m1 (end_word e.ladder_halt) m2 x2 → Put x2 m2 (bytes " ") m3 x3
      → Put x3 m3 (end_word e.list_halt) m4 x4 → Put x4 m4 (bytes "\n") m5 x5 → Put x5 m5 (scan_count_lines e.ladder e.list) r y → Put l i (end_lines e) r y
  unfolding end_lines
  ends_put e p1 p2 p3 p4 p5 p6 = put_then p1 (put_then p2 (put_then p3 (put_then p4 (put_then p5 p6))))

-- ---- the variables' lines

pub line_long : (v b a t : ℕ) → v < 65536 → b < 65536 → a < 65536 → t < 65536 → length (changed_line v b a t) ≤ 31
unfolding changed_line bytes
line_long v b a t hv hb ha ht =
    let dv = decimal_long v hv in
    let db = decimal_long b hb in
    let da = decimal_long a ha in
    let dt = decimal_long t ht in
    simp length-append (omega arith)

next_at : (i n : ℕ) (xs : List ℕ) → i < n → i < length xs → drop i (take n xs) ≡ get_or xs i 0 ∷ drop (suc i) (take n xs)
next_at i zero xs h k = absurd (omega arith)
next_at i (suc n) [] h k = absurd (omega arith)
next_at zero (suc n) (x ∷ xs) h k = refl
next_at (suc i) (suc n) (x ∷ xs) h k = next_at i n xs (omega arith) (omega arith)

drop_none : (i : ℕ) → drop {A = ℕ} i [] ≡ []
drop_none zero = refl
drop_none (suc i) = refl

none_long : (i n : ℕ) (xs : List ℕ) → length xs ≤ i → drop i (take n xs) ≡ []
none_long i zero xs h = drop_none i
none_long i (suc n) [] h = drop_none i
none_long zero (suc n) (x ∷ xs) h = absurd (omega arith)
none_long (suc i) (suc n) (x ∷ xs) h = none_long i n xs (omega arith)

none_end : (i n : ℕ) (xs : List ℕ) → n ≤ i → drop i (take n xs) ≡ []
none_end i zero xs h = drop_none i
none_end zero (suc n) xs h = absurd (omega arith)
none_end (suc i) (suc n) [] h = refl
none_end (suc i) (suc n) (x ∷ xs) h = none_end i n xs (omega arith)

no_ladder : (v : ℕ) (bs ts : List ℕ) → changed_lines v bs [] ts ≡ []
unfolding changed_lines
no_ladder v [] ts = refl
no_ladder v (b ∷ bs) ts = refl

no_list : (v : ℕ) (bs ls : List ℕ) → changed_lines v bs ls [] ≡ []
unfolding changed_lines
no_list v [] ls = refl
no_list v (b ∷ bs) [] = refl
no_list v (b ∷ bs) (l ∷ ls) = refl

-- the code's test and the definition's
unlike : (p q : Bool) → (not p || not q) ≡ true → (p && q) ≡ false
unlike true true e = absurd (subst T (sym e) tt)
unlike true false e = refl
unlike false q e = refl

same : (p q : Bool) → (not p || not q) ≡ false → (p && q) ≡ true
same true true e = refl
same true false e = absurd (subst T e tt)
same false q e = absurd (subst T e tt)

abbrev lines_from : ℕ → List ℕ → List ℕ → List ℕ → ℕ → List ℕ
lines_from n bs ls ts i = changed_lines i (drop i (take n bs)) (drop i (take n ls)) (drop i (take n ts))

-- the first `n` variables, of which those below `i` are passed
pub record Changing (from n : ℕ) (bs ls ts l x : List ℕ) (m i : ℕ) : Type 0 where
  pub left : Left l from (changed_lines 0 (take n bs) (take n ls) (take n ts)) x m (lines_from n bs ls ts i)
  pub within : i ≤ n
  pub room : m ≤ from + 31 * i

pub changing_start : (from n : ℕ) (bs ls ts l : List ℕ) → Changing from n bs ls ts l l from 0
changing_start from n bs ls ts l = record { left = all_left l from (changed_lines 0 (take n bs) (take n ls) (take n ts)); within = omega arith; room = omega arith }

module _ {from n : ℕ} {bs ls ts l x : List ℕ} {m i : ℕ} (h : Changing from n bs ls ts l x m i) where
  pub changing_end : min (min (min (length bs) (length ls)) (length ts)) n ≤ i → Put l from (changed_lines 0 (take n bs) (take n ls) (take n ts)) m x
  unfolding changed_lines
  changing_end g = left_none h.left (go (dec_le n i) (dec_le (length bs) i) (dec_le (length ls) i))
    where
      go : Dec (n ≤ i) → Dec (length bs ≤ i) → Dec (length ls ≤ i) → lines_from n bs ls ts i ≡ []
      go (yes k) y z = rw (none_end i n bs k, changed_lines)
      go (no k) (yes y) z = rw (none_long i n bs y, changed_lines)
      go (no k) (no y) (yes z) = rw (none_long i n ls z) (no_ladder i (drop i (take n bs)) (drop i (take n ts)))
      go (no k) (no y) (no z) = rw (none_long i n ts (omega arith)) (no_list i (drop i (take n bs)) (drop i (take n ls)))

  module _ (lt : i < n) (kb : i < length bs) (kl : i < length ls) (kt : i < length ts) where
    next_line : lines_from n bs ls ts i
        ≡ elim (eqb (get_or ls i 0) (get_or bs i 0) && eqb (get_or ts i 0) (get_or bs i 0)) [ true ↦ [] | false ↦ changed_line i (get_or bs i 0) (get_or ls i 0) (get_or ts i 0) ]
        ++ lines_from n bs ls ts (suc i)
    unfolding changed_lines
    next_line = rw (next_at i n bs lt kb, next_at i n ls lt kl, next_at i n ts lt kt, changed_lines)

    pub changing_same : (not (eqb (get_or ls i 0) (get_or bs i 0)) || not (eqb (get_or ts i 0) (get_or bs i 0))) ≡ false → Changing from n bs ls ts l x m (i + 1)
    changing_same e =
        record {
          left = rw add-one (left_more h.left {a = []} (rw (same (eqb (get_or ls i 0) (get_or bs i 0)) (eqb (get_or ts i 0) (get_or bs i 0)) e) at next_line)
              (record { end = omega arith; wrote = refl }));
          within = omega arith;
          room = omega (arith, h.room);
        }

    pub changing_more : {r : ℕ} {y : List ℕ} → (not (eqb (get_or ls i 0) (get_or bs i 0)) || not (eqb (get_or ts i 0) (get_or bs i 0))) ≡ true
        → i < 65536 → get_or bs i 0 < 65536 → get_or ls i 0 < 65536 → get_or ts i 0 < 65536
        → Put x m (changed_line i (get_or bs i 0) (get_or ls i 0) (get_or ts i 0)) r y → Changing from n bs ls ts l y r (i + 1)
    changing_more e hv hb hl ht p =
        let s = line_long i (get_or bs i 0) (get_or ls i 0) (get_or ts i 0) hv hb hl ht in
        record {
          left = rw add-one (left_more h.left (rw (unlike (eqb (get_or ls i 0) (get_or bs i 0)) (eqb (get_or ts i 0) (get_or bs i 0)) e) at next_line) p);
          within = omega arith;
          room = omega (arith, p.end, h.room);
        }

-- ---- how far all the lines reach

abbrev pub Small : List ℕ → Type 0
Small xs = (k : ℕ) → get_or xs k 0 < 65536

small_take : (n : ℕ) (xs : List ℕ) → Small xs → Small (take n xs)
small_take zero xs h k = omega arith
small_take (suc n) [] h k = omega arith
small_take (suc n) (x ∷ xs) h zero = h 0
small_take (suc n) (x ∷ xs) h (suc k) = small_take n xs (λ j. h (suc j)) k

abbrev line_of : ℕ → ℕ → ℕ → ℕ → List ℕ
line_of v b l t = elim (eqb l b && eqb t b) [ true ↦ [] | false ↦ changed_line v b l t ]

one_long : (v b l t : ℕ) → v < 65536 → b < 65536 → l < 65536 → t < 65536 → length (line_of v b l t) ≤ 31
one_long v b l t hv hb hl ht = go (eqb l b && eqb t b)
  where
    go : (p : Bool) → length {A = ℕ} (elim p [ true ↦ [] | false ↦ changed_line v b l t ]) ≤ 31
    go true = omega arith
    go false = line_long v b l t hv hb hl ht

lines_long : (v : ℕ) (bs ls ts : List ℕ) → v + length bs ≤ 65536 → Small bs → Small ls → Small ts → length (changed_lines v bs ls ts) ≤ 31 * length bs
unfolding changed_lines
lines_long v [] ls ts h hb hl ht = omega arith
lines_long v (b ∷ bs) [] ts h hb hl ht = omega arith
lines_long v (b ∷ bs) (l ∷ ls) [] h hb hl ht = omega arith
lines_long v (b ∷ bs) (l ∷ ls) (t ∷ ts) h hb hl ht =
    let one = one_long v b l t (omega arith) (hb 0) (hl 0) (ht 0) in
    let more = lines_long (suc v) bs ls ts (omega arith) (λ k. hb (suc k)) (λ k. hl (suc k)) (λ k. ht (suc k)) in
    rw (length-append (line_of v b l t) (changed_lines (suc v) bs ls ts)) (omega arith)

length_take_most : (n : ℕ) (xs : List ℕ) → length (take n xs) ≤ n
length_take_most zero xs = omega arith
length_take_most (suc n) [] = omega arith
length_take_most (suc n) (x ∷ xs) = omega (arith, length_take_most n xs)

pub changed_reach : {l : List ℕ} {i r : ℕ} {x : List ℕ} (n : ℕ) (bs ls ts : List ℕ) → Put l i (changed_lines 0 (take n bs) (take n ls) (take n ts)) r x
    → n ≤ 1024 → i ≤ 10000 → Small bs → Small ls → Small ts → r ≤ 100000
changed_reach n bs ls ts p few from hb hl ht =
    let most = length_take_most n bs in
    let long = lines_long 0 (take n bs) (take n ls) (take n ts) (omega arith) (small_take n bs hb) (small_take n ls hl) (small_take n ts ht) in
    omega (arith, p.end)

-- ---- the verdict

module _ {l : List ℕ} {i : ℕ} {r : ℕ} {x : List ℕ} where
  pub verdict_put : (v w : Verdict) → v ≡ w → Put l i (verdict_line v) r x → Put l i (verdict_line w) r x
  verdict_put v w e p = rw (← e) p
