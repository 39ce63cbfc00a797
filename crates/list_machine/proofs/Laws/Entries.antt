-- Laws of the times entered: one more for the first record that does not begin before the index is what an instruction enters, and no field is more than the
-- instructions carried out (02, Req 04). Assumes nothing.
use Rattle.std.specs.Prelude.{ℕ, suc, ◌+◌, ◌≤◌, ◌<◌, ◌≡◌, refl, length, get_or, set, eqb}
use Rattle.std.proofs.Common.{arith, add-zero, sym, ap, length-set, get_or-set_same, get_or-set_other, ne_eqb}
use Rattle.std.proofs.Math.Decide.{ℕ_discrete, dec_lt}
use mathlib.Core.List.{List, [], ◌∷◌, zip_with}
use Rattle.std.proofs.lemmas.List.{get_or-replicate, length-replicate}
use Rattle.std.proofs.Math.ListN.{get_or-eq_default}
use Rattle.std.proofs.Math.Seq.{set_out}
use Rattle.questions.specs.Tests.{bit}
use Rattle.rungs.specs.Records.{RungRecord, offsets, enter, none_entered}
use Rattle.list_definitions.proofs.Laws.Times.{enter_none}
use Rattle.list_machine.specs.Parts.{starts_here, counted, ascending, before}
use Rattle.list_machine.proofs.Laws.Seeks.{no_start, starts_suc, starts_zero, before_pass, before_stay}

-- one more for the first record that does not begin before the index, where it begins there
pub entered_here : (least : ℕ) (rs : List RungRecord) (i : ℕ) (ts : List ℕ) → ascending least (offsets rs) → length ts ≡ length rs
    → counted ts (before (offsets rs) i) (starts_here (offsets rs) (before (offsets rs) i) i) ≡ enter rs i ts
unfolding enter zip_with ascending counted
entered_here least [] i [] a e = refl
entered_here least [] i (t ∷ ts) a e = absurd (omega arith)
entered_here least (r ∷ rs) i [] a e = absurd (omega arith)
entered_here least (r ∷ rs) i (t ∷ ts) a e = go (dec_lt r.offset i) (entered_here (suc r.offset) rs i ts a.1 (omega arith))
  where
    go : Dec (r.offset < i) → counted ts (before (offsets rs) i) (starts_here (offsets rs) (before (offsets rs) i) i) ≡ enter rs i ts
        → counted (t ∷ ts) (before (offsets (r ∷ rs)) i) (starts_here (offsets (r ∷ rs)) (before (offsets (r ∷ rs)) i) i) ≡ enter (r ∷ rs) i (t ∷ ts)
    go (yes h) ih = rw (before_pass r.offset (offsets rs) i h, starts_suc r.offset (offsets rs) (before (offsets rs) i) i, ne_eqb r.offset i (λ q. omega arith), add-zero)
        (ap (λ x. t ∷ x) ih)
    go (no h) ih = rw (before_stay r.offset (offsets rs) i (omega arith), starts_zero r.offset (offsets rs) i)
        (ap (λ x. (t + bit (eqb r.offset i)) ∷ x) (sym (enter_none rs i ts (no_start (suc r.offset) rs i a.1 (omega arith)) (omega arith))))

pub counted_length : (ts : List ℕ) (next entered : ℕ) → length (counted ts next entered) ≡ length ts
unfolding counted
counted_length ts next entered = length-set ts next _

-- ---- no field is more than n

pub record FewTimes (ts : List ℕ) (n : ℕ) : Type 0 where
  pub few : (k : ℕ) → get_or ts k 0 ≤ n

pub few_zeros : (m : ℕ) → FewTimes (none_entered m) 0
few_zeros m = record { few = λ k. go k (dec_lt k m) }
  where
    go : (k : ℕ) → Dec (k < m) → get_or (none_entered m) k 0 ≤ 0
    go k (yes h) = rw (get_or-replicate {A = ℕ} m k 0 0 h) (omega arith)
    go k (no h) = let e = length-replicate {A = ℕ} m 0 in rw (get_or-eq_default (none_entered m) 0 {n = k} (omega arith)) (omega arith)

pub few_counted : (ts : List ℕ) (n next entered : ℕ) → FewTimes ts n → entered ≤ 1 → FewTimes (counted ts next entered) (n + 1)
unfolding counted
few_counted ts n next entered f one = record { few = λ k. go k (ℕ_discrete k next) (dec_lt next (length ts)) }
  where
    go : (k : ℕ) → Dec (k ≡ next) → Dec (next < length ts) → get_or (set ts next (get_or ts next 0 + entered)) k 0 ≤ n + 1
    go k d (no h) = let m = f.few k in rw (set_out ts next (get_or ts next 0 + entered) (omega arith)) (omega arith)
    go k (yes q) (yes h) = let m = f.few next in rw (q, get_or-set_same ts next (get_or ts next 0 + entered) 0 h) (omega arith)
    go k (no q) (yes h) = let m = f.few k in rw (get_or-set_other ts next k (get_or ts next 0 + entered) 0 q) (omega arith)
