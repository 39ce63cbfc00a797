-- Laws of a table in chunks of six bytes, which are its names. Assumes nothing.
use Prim.Native.Nat.{ℕ, suc, ◌/◌}
use native.Mathlib.Omega.{arith}
use mathlib.Core.Path.{◌≡◌, refl, subst, ◌∙◌}
use mathlib.Core.List.{List, ◌∷◌, ◌++◌}
use lib.ListN.{length, take, drop, length-append}
use lib.Seq.{take-append_seam, drop-append_seam}
use Rattle.std.proofs.lemmas.Iterator.{YieldsList}
use Rattle.std.proofs.lemmas.Iterator.Splits.{YieldsList-from_shown_while}
use Rattle.std.specs.Slice.Iter.{chunks_exact_rest, chunks_exact_size, chunks_exact_steps}
use Rattle.list_definitions.specs.Names.{names_from}

six_more : (x r : List ℕ) → length x ≡ 6 → names_from (length (x ++ r) / 6) (x ++ r) ≡ x ∷ names_from (length r / 6) r
unfolding names_from
six_more x r e =
    let more : length (x ++ r) / 6 ≡ suc (length r / 6) = omega (arith, length-append x r) in
    let first : take 6 (x ++ r) ≡ x = subst (λ n. take n (x ++ r) ≡ x) e (take-append_seam x r) in
    let rest : drop 6 (x ++ r) ≡ r = subst (λ n. drop n (x ++ r) ≡ r) e (drop-append_seam x r) in
    rw (more, first, rest) refl

pub names_yielded : {s : _} (xs : List ℕ) → chunks_exact_rest s ≡ xs → chunks_exact_size s ≡ 6 → YieldsList chunks_exact_steps (λ y. y.now) s (names_from (length xs / 6) xs)
unfolding names_from
names_yielded {s} xs e six =
    rw (← e) (YieldsList-from_shown_while chunks_exact_steps (λ y. y.now) (λ s. names_from (length (chunks_exact_rest s) / 6) (chunks_exact_rest s)) (λ s. chunks_exact_size s ≡ 6)
    (λ s t p k. let none : length (chunks_exact_rest s) / 6 ≡ 0 = omega (arith, k.1.0, p) in rw none refl)
    (λ s x t p k. (k.0 ∙ p, rw k.1.0 (six_more x.now (chunks_exact_rest t) (k.1.1 ∙ p))))
    s six)
