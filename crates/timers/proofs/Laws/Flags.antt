-- Flags that fit a byte: those that were bytes, and those that a timer's run leaves. Assumes nothing.
use Rattle.std.specs.Prelude.{◌≡◌, ℕ, zero, suc, ◌<◌, Bool, true, false, ◌||◌, T, List, [], ◌∷◌, drop, nat_le, nat_lt, slice_index, slice_set, refl}
use Rattle.std.proofs.Common.{arith, ltb→lt, lt→ltb, get_or-drop}
use Rattle.std.proofs.Math.Option.{Option, none, some}
use Rattle.std.proofs.Math.ListN.{get_elem?}
use Rattle.std.proofs.Math.Facts.{and_yes, yes_and}
use Rattle.questions.specs.Tests.{all, bit, truth}
use Rattle.questions.proofs.Laws.Tests.{all_head, all_tail, all_cons, bit_few}
use Rattle.table.specs.Timer.{Timer, elapsed, started, tested, powered}
use Rattle.table.specs.State.{State, write, set_timer, run_timer}
use Rattle.table.specs.TimerRecords.{joined}
use Rattle.table.proofs.Laws.Timers.{timer_none, timer_some}
use Rattle.timers.specs.Parts.{flag_bytes}

pub flag_bytes_lem : (t : Timer) → t.running < 256 → t.done < 256 → T (flag_bytes t)
flag_bytes_lem t h k = yes_and (nat_lt t.running 256) (nat_lt t.done 256) (lt→ltb _ _ h) (lt→ltb _ _ k)

pub running_byte : (t : Timer) → T (flag_bytes t) → t.running < 256
running_byte t h = ltb→lt _ _ (and_yes (nat_lt t.running 256) (nat_lt t.done 256) h).0

pub done_byte : (t : Timer) → T (flag_bytes t) → t.done < 256
done_byte t h = ltb→lt _ _ (and_yes (nat_lt t.running 256) (nat_lt t.done 256) h).1

bit_byte : (b : Bool) → bit b < 256
bit_byte b = let few = bit_few b in omega arith

powered_bytes : (now : ℕ) (p : Bool) (t : Timer) → T (flag_bytes (powered now p t))
unfolding powered tested
powered_bytes now true t = let u = started now t in flag_bytes_lem (tested now u) (bit_byte true) (bit_byte (truth u.done || nat_le u.preset (elapsed now u.start)))
powered_bytes now false t = tt

set_bytes : (ts : List Timer) (n : ℕ) (u : Timer) → T (all flag_bytes ts) → T (flag_bytes u) → T (all flag_bytes (slice_set ts n u))
set_bytes [] n u h k = h
set_bytes (t ∷ ts) zero u h k = all_cons flag_bytes u ts k (all_tail flag_bytes t ts h)
set_bytes (t ∷ ts) (suc n) u h k = all_cons flag_bytes t (slice_set ts n u) (all_head flag_bytes t ts h) (set_bytes ts n u (all_tail flag_bytes t ts h) k)

pub timer_bytes : (s : State) (n : ℕ) (p : Bool) → T (all flag_bytes s.timers) → T (all flag_bytes (run_timer s n p).timers)
unfolding write set_timer
timer_bytes s n p h = go (get_elem? s.timers n) refl
  where
    go : (x : Option Timer) → get_elem? s.timers n ≡ x → T (all flag_bytes (run_timer s n p).timers)
    go none e = rw (timer_none s n p e) h
    go (some t) e = rw (timer_some s n p t s.now e refl) (set_bytes s.timers n (powered s.now p t) h (powered_bytes s.now p t))

pub joined_bytes : (ps ss vs rs ds : List ℕ) → ((i : ℕ) → slice_index rs i < 256) → ((i : ℕ) → slice_index ds i < 256) → T (all flag_bytes (joined ps ss vs rs ds))
unfolding joined
joined_bytes [] ss vs rs ds f g = tt
joined_bytes (p ∷ ps) ss vs rs ds f g =
    let t : Timer = record { preset = p; start = slice_index ss 0; variable = slice_index vs 0; running = slice_index rs 0; done = slice_index ds 0 } in
    all_cons flag_bytes t (joined ps (drop 1 ss) (drop 1 vs) (drop 1 rs) (drop 1 ds)) (flag_bytes_lem t (f 0) (g 0))
    (joined_bytes ps (drop 1 ss) (drop 1 vs) (drop 1 rs) (drop 1 ds) (λ i. rw (get_or-drop 1 rs i 0) (f _)) (λ i. rw (get_or-drop 1 ds i 0) (g _)))
