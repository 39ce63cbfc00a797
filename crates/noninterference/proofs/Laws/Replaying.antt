-- The same writes made in two tables of one length: what they leave of the tables' being alike. Assumes nothing.
use Rattle.std.specs.Prelude.{ℕ, ◌<◌, ◌≡◌, refl, ◌⊎◌, List, [], ◌∷◌, map, T, length, get_or}
use Rattle.std.proofs.Common.{arith, sym, ◌∙◌, inl, inr, length-set, get_or-set_same, get_or-set_other}
use Rattle.questions.specs.Tests.{bit}
use Rattle.table.specs.State.{written_at}
use Rattle.table.specs.Writes.{Write, made, replay}
use Rattle.table.proofs.Laws.Alike.{set_same}
use Rattle.noninterference.specs.Contacts.{among}
use Rattle.noninterference.specs.Noninterference.{wrote_to}
use Rattle.noninterference.proofs.Laws.Contacts.{among_head, among_tail, among_cases}

made_room : (w : Write) (s t : List ℕ) → length s ≡ length t → length (made w s) ≡ length (made w t)
unfolding made written_at
made_room w s t h = length-set s w.index (bit w.value) ∙ h ∙ sym (length-set t w.index (bit w.value))

-- what was the same at i, seen through f, is the same
pub replay_same : {A : Type 0} (f : ℕ → A) (ws : List Write) (s t : List ℕ) (i : ℕ) → length s ≡ length t → f (get_or s i 0) ≡ f (get_or t i 0)
    → f (get_or (replay ws s) i 0) ≡ f (get_or (replay ws t) i 0)
unfolding replay made written_at
replay_same f [] s t i h e = e
replay_same f (w ∷ ws) s t i h e = replay_same f ws (made w s) (made w t) i (made_room w s t h) (set_same f s t w.index (bit w.value) h i e)

-- the byte that was written
made_both : (w : Write) (s t : List ℕ) (v : ℕ) → w.index ≡ v → length s ≡ length t → v < length s → get_or (made w s) v 0 ≡ get_or (made w t) v 0
unfolding made written_at
made_both w s t v e h k = rw (e, get_or-set_same s v (bit w.value) 0 k, get_or-set_same t v (bit w.value) 0 (omega arith))

-- a variable among those written holds the same byte in both
pub replay_written : (ws : List Write) (s t : List ℕ) (v : ℕ) → length s ≡ length t → v < length s → T (wrote_to v ws) → get_or (replay ws s) v 0 ≡ get_or (replay ws t) v 0
unfolding replay made written_at wrote_to among
replay_written [] s t v h k m = absurd m
replay_written (w ∷ ws) s t v h k m = go (among_cases v w.index (map (λ x. x.index) ws) m) (replay_written ws (made w s) (made w t) v (made_room w s t h) below)
  where
    below : v < length (made w s)
    below = rw (length-set s w.index (bit w.value)) k

    go : (w.index ≡ v) ⊎ T (wrote_to v ws) → (T (wrote_to v ws) → get_or (replay ws (made w s)) v 0 ≡ get_or (replay ws (made w t)) v 0)
        → get_or (replay ws (made w s)) v 0 ≡ get_or (replay ws (made w t)) v 0
    go (inl e) ih = replay_same (λ b. b) ws (made w s) (made w t) v (made_room w s t h) (made_both w s t v e h k)
    go (inr n) ih = ih n

-- and one that is not keeps its byte
pub replay_kept : (ws : List Write) (s : List ℕ) (v : ℕ) → (T (wrote_to v ws) → ⊥) → get_or (replay ws s) v 0 ≡ get_or s v 0
unfolding replay made written_at wrote_to
replay_kept [] s v h = refl
replay_kept (w ∷ ws) s v h =
    replay_kept ws (made w s) v (λ k. h (among_tail v w.index (map (λ x. x.index) ws) k))
    ∙ get_or-set_other s w.index v (bit w.value) 0 (λ e. h (rw e (among_head w.index (map (λ x. x.index) ws))))
