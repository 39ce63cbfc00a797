-- Laws of the timers' lines: their parts put one after the other, how far they reach, and the lines from any timer on. Assumes nothing.
use Prim.Native.Nat.{ℕ, suc, ◌+◌, ◌*◌, ◌-◌, ◌≤◌, ◌<◌, min}
use native.Mathlib.Omega.{arith}
use mathlib.Core.Path.{◌≡◌, refl, sym, ap, ◌∙◌}
use mathlib.Core.Bool.{Bool, true, false, not, ◌&&◌, and-false}
use mathlib.Core.List.{List, [], ◌∷◌, ◌++◌, append_assoc}
use native.Mathlib.Decide.{dec_le}
use borrow.Author.Tests.{not-true, not-false}
use native.Mathlib.Nat.{add-zero}
use lib.Dec.{eqb}
use lib.ListN.{length, get_or, take, drop, length-drop}
use Rattle.std.proofs.lemmas.List.{length-take-le, get_or-take, get_or-drop}
use Rattle.std.specs.Cmp.Lexicographic.{pointwise}
use Rattle.questions.proofs.Laws.Bytes.{same_is}
use Rattle.questions.specs.Bytes.{bytes, decimal, same_bytes}
use Rattle.table.specs.Timer.{Timer}
use Rattle.table.specs.TimerRecords.{numbers_of, timers_in}
use Rattle.timers.specs.Parts.{timer_at}
use Rattle.timers.proofs.Laws.Numbers.{timers_more}
use Rattle.printing.specs.Put.{Put}
use Rattle.printing.proofs.Laws.Puts.{put_then, put_as, Left, all_left, left_none, left_more}
use Rattle.program_definitions.specs.Scanout.{timer_text, timer_line, same_timer, timer_lines}

-- ---- a timer's start tick and flags

module _ (t : Timer) {l : List ℕ} {i m1 m2 m3 m4 r : ℕ} {x1 x2 x3 x4 y : List ℕ} where
  pub state_put : Put l i (decimal t.start) m1 x1 → Put x1 m1 (bytes ",") m2 x2 → Put x2 m2 (decimal t.running) m3 x3 → Put x3 m3 (bytes ",") m4 x4
      → Put x4 m4 (decimal t.done) r y → Put l i (timer_text t) r y
  unfolding timer_text
  state_put a b c d e = put_then a (put_then b (put_then c (put_then d e)))

-- ---- a line

module _ (n : ℕ) (b l t : Timer) {o : List ℕ} {i m1 m2 m3 m4 m5 m6 r : ℕ} {x1 x2 x3 x4 x5 x6 y : List ℕ} where
  pub line_put : Put o i (bytes "d") m1 x1 → Put x1 m1 (decimal n) m2 x2 → Put x2 m2 (bytes " ") m3 x3
      → Put x3 m3 (timer_text b ++ (bytes ">" ++ timer_text l)) m4 x4 → Put x4 m4 (bytes " ") m5 x5
      → Put x5 m5 (timer_text b ++ (bytes ">" ++ timer_text t)) m6 x6 → Put x6 m6 (bytes "\n") r y → Put o i (timer_line n b l t) r y
  unfolding timer_line
  line_put a c d e f g h =
      let tail = bytes "\n" in
      let list : (timer_text b ++ (bytes ">" ++ timer_text t)) ++ tail ≡ timer_text b ++ (bytes ">" ++ (timer_text t ++ tail)) =
      append_assoc (timer_text b) (bytes ">" ++ timer_text t) tail ∙ ap (λ z. timer_text b ++ z) (append_assoc (bytes ">") (timer_text t) tail) in
      let after = bytes " " ++ (timer_text b ++ (bytes ">" ++ (timer_text t ++ tail))) in
      let ladder : (timer_text b ++ (bytes ">" ++ timer_text l)) ++ after ≡ timer_text b ++ (bytes ">" ++ (timer_text l ++ after)) =
      append_assoc (timer_text b) (bytes ">" ++ timer_text l) after ∙ ap (λ z. timer_text b ++ z) (append_assoc (bytes ">") (timer_text l) after) in
      put_then a (put_then c (put_then d (put_as (sym ladder) (put_then e (put_then f (put_as (sym list) (put_then g h)))))))

-- ---- a record among the numbers, and two compared

abbrev pub record_of : List ℕ → ℕ → List ℕ
record_of ns at = take (at + 5 - at) (drop at ns)

module _ (ns : List ℕ) (at : ℕ) (k : at + 5 ≤ length ns) where
  pub record_five : length (record_of ns at) ≡ 5
  record_five = length-take-le (at + 5 - at) (drop at ns) (omega (arith, length-drop at ns)) ∙ omega arith

  number_at : (i : ℕ) → i < 5 → get_or (record_of ns at) i 0 ≡ get_or ns (at + i) 0
  number_at i h = get_or-take (at + 5 - at) (drop at ns) i 0 (omega arith) ∙ get_or-drop at ns i 0

  pub record_timer : timer_at (record_of ns at) 0 ≡ timer_at ns at
  record_timer = λ j. record {
    preset = (number_at 0 (omega arith) ∙ ap (λ i. get_or ns i 0) (add-zero at)) j;
    start = number_at 1 (omega arith) j;
    variable = number_at 2 (omega arith) j;
    running = number_at 3 (omega arith) j;
    done = number_at 4 (omega arith) j;
  }

numbers_five : (ns : List ℕ) → length ns ≡ 5 → numbers_of (timer_at ns 0) ≡ ns
unfolding numbers_of
numbers_five [] h = absurd (omega arith)
numbers_five (p ∷ []) h = absurd (omega arith)
numbers_five (p ∷ s ∷ []) h = absurd (omega arith)
numbers_five (p ∷ s ∷ v ∷ []) h = absurd (omega arith)
numbers_five (p ∷ s ∷ v ∷ r ∷ []) h = absurd (omega arith)
numbers_five (p ∷ s ∷ v ∷ r ∷ d ∷ []) h = refl
numbers_five (p ∷ s ∷ v ∷ r ∷ d ∷ x ∷ more) h = absurd (omega arith)

-- `==` compares two records
pub compared : (ls bs : List ℕ) (at : ℕ) → at + 5 ≤ length ls → at + 5 ≤ length bs
    → pointwise eqb (record_of ls at) (record_of bs at) ≡ same_timer (timer_at ls at) (timer_at bs at)
unfolding same_timer
compared ls bs at ka kb =
    sym (same_is (record_of ls at) (record_of bs at))
    ∙ (λ j. same_bytes (sym (numbers_five (record_of ls at) (record_five ls at ka)) j) (sym (numbers_five (record_of bs at) (record_five bs at kb)) j))
    ∙ (λ j. same_bytes (numbers_of (record_timer ls at ka j)) (numbers_of (record_timer bs at kb j)))

-- ---- the lines from any timer on

none_left : (ns : List ℕ) → length ns < 5 → timers_in ns ≡ []
unfolding timers_in
none_left [] h = refl
none_left (p ∷ []) h = refl
none_left (p ∷ s ∷ []) h = refl
none_left (p ∷ s ∷ v ∷ []) h = refl
none_left (p ∷ s ∷ v ∷ r ∷ []) h = refl
none_left (p ∷ s ∷ v ∷ r ∷ d ∷ later) h = absurd (omega arith)

none_from : (ns : List ℕ) (at : ℕ) → length ns < at + 5 → timers_in (drop at ns) ≡ []
none_from ns at h = none_left (drop at ns) (omega (arith, length-drop at ns))

no_before : (n : ℕ) (ls ts : List Timer) → timer_lines n [] ls ts ≡ []
unfolding timer_lines
no_before n ls ts = refl

no_ladder : (n : ℕ) (bs ts : List Timer) → timer_lines n bs [] ts ≡ []
unfolding timer_lines
no_ladder n [] ts = refl
no_ladder n (b ∷ bs) ts = refl

no_list : (n : ℕ) (bs ls : List Timer) → timer_lines n bs ls [] ≡ []
unfolding timer_lines
no_list n [] ls = refl
no_list n (b ∷ bs) [] = refl
no_list n (b ∷ bs) (l ∷ ls) = refl

abbrev lines_from : List ℕ → List ℕ → List ℕ → ℕ → List ℕ
lines_from bs ls ts i = timer_lines i (timers_in (drop (i * 5) bs)) (timers_in (drop (i * 5) ls)) (timers_in (drop (i * 5) ts))

abbrev all_lines : List ℕ → List ℕ → List ℕ → List ℕ
all_lines bs ls ts = timer_lines 0 (timers_in bs) (timers_in ls) (timers_in ts)

-- the timers, of which those below `i` are passed
pub record Timing (from : ℕ) (bs ls ts l x : List ℕ) (m i : ℕ) : Type 0 where
  pub left : Left l from (all_lines bs ls ts) x m (lines_from bs ls ts i)
  pub room : m ≤ from + 300 * i
  pub few : i ≤ 32

pub timing_start : (from : ℕ) (bs ls ts l : List ℕ) → Timing from bs ls ts l l from 0
timing_start from bs ls ts l = record { left = all_left l from (all_lines bs ls ts); room = omega arith; few = omega arith }

module _ {from : ℕ} {bs ls ts l x : List ℕ} {m i : ℕ} (h : Timing from bs ls ts l x m i) where
  within : from ≤ 100000 → m ≤ 150000
  within w = omega (arith, h.room, h.few)

  pub timing_end : from ≤ 100000 → min (min (length bs) (length ls)) (length ts) < i * 5 + 5 → Put l from (all_lines bs ls ts) m x × (m ≤ 150000)
  timing_end w g = (left_none h.left (go (dec_le (i * 5 + 5) (length bs)) (dec_le (i * 5 + 5) (length ls))), within w)
    where
      go : Dec (i * 5 + 5 ≤ length bs) → Dec (i * 5 + 5 ≤ length ls) → lines_from bs ls ts i ≡ []
      go (no k) j = rw (none_from bs (i * 5) (omega arith)) (no_before i (timers_in (drop (i * 5) ls)) (timers_in (drop (i * 5) ts)))
      go (yes k) (no j) = rw (none_from ls (i * 5) (omega arith)) (no_ladder i (timers_in (drop (i * 5) bs)) (timers_in (drop (i * 5) ts)))
      go (yes k) (yes j) = rw (none_from ts (i * 5) (omega arith)) (no_list i (timers_in (drop (i * 5) bs)) (timers_in (drop (i * 5) ls)))

  module _ (lt : i < 32) (kb : i * 5 + 5 ≤ length bs) (kl : i * 5 + 5 ≤ length ls) (kt : i * 5 + 5 ≤ length ts) where
    abbrev record_in : List ℕ → Timer
    record_in ns = timer_at ns (i * 5)

    abbrev test : Bool
    test = same_timer (record_in ls) (record_in bs) && same_timer (record_in ts) (record_in bs)

    next_line : lines_from bs ls ts i ≡ elim test [ true ↦ [] | false ↦ timer_line i (record_in bs) (record_in ls) (record_in ts) ] ++ lines_from bs ls ts (suc i)
    unfolding timer_lines
    next_line =
        let e : i * 5 + 5 ≡ suc i * 5 = omega arith in
        rw (timers_more bs (i * 5) kb, timers_more ls (i * 5) kl, timers_more ts (i * 5) kt, e, timer_lines) refl

    -- what `!=` says of the records
    pub ladder_differs : {r : Bool} → r ≡ not (pointwise eqb (record_of ls (i * 5)) (record_of bs (i * 5))) → r ≡ true → test ≡ false
    ladder_differs e h = rw (sym (compared ls bs (i * 5) kl kb) ∙ not-true _ (sym e ∙ h)) refl

    pub list_differs : {r : Bool} → r ≡ not (pointwise eqb (record_of ts (i * 5)) (record_of bs (i * 5))) → r ≡ true → test ≡ false
    list_differs e h = rw (sym (compared ts bs (i * 5) kt kb) ∙ not-true _ (sym e ∙ h)) (and-false (same_timer (record_in ls) (record_in bs)))

    pub neither_differs : {r q : Bool} → r ≡ not (pointwise eqb (record_of ls (i * 5)) (record_of bs (i * 5))) → r ≡ false
        → q ≡ not (pointwise eqb (record_of ts (i * 5)) (record_of bs (i * 5))) → q ≡ false → test ≡ true
    neither_differs e h f k =
        rw (sym (compared ls bs (i * 5) kl kb) ∙ not-false _ (sym e ∙ h), sym (compared ts bs (i * 5) kt kb) ∙ not-false _ (sym f ∙ k)) refl

    pub timing_same : test ≡ true → Timing from bs ls ts l x m (i + 1)
    timing_same e =
        let one : i + 1 ≡ suc i = omega arith in
        record {
          left = rw one (left_more h.left {a = []} (rw e at next_line) (record { end = omega arith; wrote = refl }));
          room = omega (arith, h.room);
          few = omega arith;
        }

    pub timing_more : {r : ℕ} {y : List ℕ} → test ≡ false
        → Put x m (timer_line i (timer_at (record_of bs (i * 5)) 0) (timer_at (record_of ls (i * 5)) 0) (timer_at (record_of ts (i * 5)) 0)) r y
        → r ≤ m + 300 → Timing from bs ls ts l y r (i + 1)
    timing_more {r} {y} e q s =
        let p : Put x m (timer_line i (record_in bs) (record_in ls) (record_in ts)) r y
        = rw (← record_timer bs (i * 5) kb, ← record_timer ls (i * 5) kl, ← record_timer ts (i * 5) kt) q in
        let one : i + 1 ≡ suc i = omega arith in
        record {
          left = rw one (left_more h.left (rw e at next_line) p);
          room = omega (arith, h.room);
          few = omega arith;
        }
