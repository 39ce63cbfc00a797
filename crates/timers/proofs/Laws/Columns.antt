-- Timer records as five slices of one length, and back. Assumes nothing.
use Rattle.std.specs.Prelude.{◌≡◌, ℕ, suc, ◌<◌, ◌≤◌, Bool, true, false, ◌&&◌, T, leb, List, [], ◌∷◌, map, length, drop, ◌==◌, nat_le}
use Rattle.std.proofs.Common.{arith, ◌∙◌, eqb→eq}
use Rattle.std.proofs.Math.Path.{refl, sym, ap}
use borrow.Author.Tests.{eq-eqb, lt-leb, leb-false}
use Rattle.std.proofs.Math.Dec.{leb→le}
use Rattle.std.proofs.Math.Facts.{and_yes}
use Rattle.questions.proofs.Laws.Tests.{T→true}
use Rattle.table.specs.Timer.{Timer}
use Rattle.table.specs.Questions.{most_timers, timers_in_range}
use Rattle.table.specs.TimerRecords.{Columns, columns, one_length, joined, too_many, column_timers, timer_columns, columns_after}
use Rattle.timers.specs.Parts.{can_pack, columns_in, SameSlices}
use Rattle.timers.specs.declared.Columns.{Columns as ColumnsStruct}

true→T : {b : Bool} → b ≡ true → T b
true→T e = rw e tt

pub record Lengths (c : Columns) : Type 0 where
  pub start : length c.start ≡ length c.preset
  pub variable : length c.variable ≡ length c.preset
  pub running : length c.running ≡ length c.preset
  pub done : length c.done ≡ length c.preset

pub one_length_lem : (c : Columns) → one_length c ≡ true → Lengths c
unfolding one_length
one_length_lem c e =
    let n = length c.preset in
    let a = and_yes (length c.start == n) _ (true→T e) in
    let b = and_yes (length c.variable == n) _ a.1 in
    let d = and_yes (length c.running == n) _ b.1 in
    record { start = eqb→eq _ _ a.0; variable = eqb→eq _ _ b.0; running = eqb→eq _ _ d.0; done = eqb→eq _ _ d.1 }

pub lengths_one : (c : Columns) → Lengths c → one_length c ≡ true
unfolding one_length
lengths_one c h = rw (eq-eqb _ _ h.start, eq-eqb _ _ h.variable, eq-eqb _ _ h.running, eq-eqb _ _ h.done) refl

-- ---- joined and taken apart

pub joined_length : (ps ss vs rs ds : List ℕ) → length (joined ps ss vs rs ds) ≡ length ps
unfolding joined
joined_length [] ss vs rs ds = refl
joined_length (p ∷ ps) ss vs rs ds = ap suc (joined_length ps (drop 1 ss) (drop 1 vs) (drop 1 rs) (drop 1 ds))

joined_preset : (ps ss vs rs ds : List ℕ) → map (λ t. t.preset) (joined ps ss vs rs ds) ≡ ps
unfolding joined
joined_preset [] ss vs rs ds = refl
joined_preset (p ∷ ps) ss vs rs ds = ap (λ l. p ∷ l) (joined_preset ps (drop 1 ss) (drop 1 vs) (drop 1 rs) (drop 1 ds))

joined_start : (ps ss vs rs ds : List ℕ) → length ss ≡ length ps → map (λ t. t.start) (joined ps ss vs rs ds) ≡ ss
unfolding joined
joined_start [] [] vs rs ds e = refl
joined_start [] (s ∷ ss) vs rs ds e = absurd (omega arith)
joined_start (p ∷ ps) [] vs rs ds e = absurd (omega arith)
joined_start (p ∷ ps) (s ∷ ss) vs rs ds e = ap (λ l. s ∷ l) (joined_start ps ss (drop 1 vs) (drop 1 rs) (drop 1 ds) (omega arith))

joined_variable : (ps ss vs rs ds : List ℕ) → length vs ≡ length ps → map (λ t. t.variable) (joined ps ss vs rs ds) ≡ vs
unfolding joined
joined_variable [] ss [] rs ds e = refl
joined_variable [] ss (v ∷ vs) rs ds e = absurd (omega arith)
joined_variable (p ∷ ps) ss [] rs ds e = absurd (omega arith)
joined_variable (p ∷ ps) ss (v ∷ vs) rs ds e = ap (λ l. v ∷ l) (joined_variable ps (drop 1 ss) vs (drop 1 rs) (drop 1 ds) (omega arith))

joined_running : (ps ss vs rs ds : List ℕ) → length rs ≡ length ps → map (λ t. t.running) (joined ps ss vs rs ds) ≡ rs
unfolding joined
joined_running [] ss vs [] ds e = refl
joined_running [] ss vs (r ∷ rs) ds e = absurd (omega arith)
joined_running (p ∷ ps) ss vs [] ds e = absurd (omega arith)
joined_running (p ∷ ps) ss vs (r ∷ rs) ds e = ap (λ l. r ∷ l) (joined_running ps (drop 1 ss) (drop 1 vs) rs (drop 1 ds) (omega arith))

joined_done : (ps ss vs rs ds : List ℕ) → length ds ≡ length ps → map (λ t. t.done) (joined ps ss vs rs ds) ≡ ds
unfolding joined
joined_done [] ss vs rs [] e = refl
joined_done [] ss vs rs (d ∷ ds) e = absurd (omega arith)
joined_done (p ∷ ps) ss vs rs [] e = absurd (omega arith)
joined_done (p ∷ ps) ss vs rs (d ∷ ds) e = ap (λ l. d ∷ l) (joined_done ps (drop 1 ss) (drop 1 vs) (drop 1 rs) ds (omega arith))

pub column_timers_lem : (c : Columns) → one_length c ≡ true → column_timers c ≡ joined c.preset c.start c.variable c.running c.done
unfolding column_timers
column_timers_lem c e = rw e refl

pub columns_back : (c : Columns) → one_length c ≡ true → timer_columns (column_timers c) ≡ c
unfolding timer_columns
columns_back c e =
    let l = one_length_lem c e in
    ap timer_columns (column_timers_lem c e) ∙ (λ i. record {
      preset = joined_preset c.preset c.start c.variable c.running c.done i;
      start = joined_start c.preset c.start c.variable c.running c.done l.start i;
      variable = joined_variable c.preset c.start c.variable c.running c.done l.variable i;
      running = joined_running c.preset c.start c.variable c.running c.done l.running i;
      done = joined_done c.preset c.start c.variable c.running c.done l.done i;
    })

timer_lengths : (ts : List Timer) → Lengths (timer_columns ts)
unfolding timer_columns
timer_lengths [] = record { start = refl; variable = refl; running = refl; done = refl }
timer_lengths (t ∷ ts) = let h = timer_lengths ts in record { start = ap suc h.start; variable = ap suc h.variable; running = ap suc h.running; done = ap suc h.done }

joined_back : (ts : List Timer) → joined (timer_columns ts).preset (timer_columns ts).start (timer_columns ts).variable (timer_columns ts).running (timer_columns ts).done ≡ ts
unfolding timer_columns joined
joined_back [] = refl
joined_back (t ∷ ts) = ap (λ l. t ∷ l) (joined_back ts)

pub timers_back : (ts : List Timer) → column_timers (timer_columns ts) ≡ ts
timers_back ts = column_timers_lem (timer_columns ts) (lengths_one (timer_columns ts) (timer_lengths ts)) ∙ joined_back ts

pub columns_after_lem : (c : Columns) (ts : List Timer) → one_length c ≡ true → columns_after c ts ≡ timer_columns ts
unfolding columns_after
columns_after_lem c ts e = rw e refl

-- slices that nothing was stored into
pub same_slices : (c : ColumnsStruct) → SameSlices c c
same_slices c = record { preset = refl; variable = refl; start = refl; running = refl; done = refl }

-- slices into which others than presets and variables were stored
pub columns_stored : (a b : ColumnsStruct) → SameSlices a b → columns_in b ≡ columns a.preset.now b.start.now a.variable.now b.running.now b.done.now
columns_stored a b same = rw (same.preset, same.variable) refl

-- ---- what question 16 says of slices

-- "more than 32 records"
pub too_many_lem : (vars : ℕ) (ts : List Timer) → most_timers < length ts → timers_in_range vars ts ≡ false
unfolding timers_in_range
too_many_lem vars ts h = rw (lt-leb (length ts) most_timers h) refl

module _ (c : Columns) where
  pub can_pack_lem : can_pack (length c.preset) (length c.start) (length c.variable) (length c.running) (length c.done) ≡ true
      → (one_length c ≡ true) × (length c.preset ≤ most_timers)
  unfolding one_length
  can_pack_lem e = let h = and_yes (one_length c) _ (true→T e) in (T→true _ h.0, leb→le _ _ h.1)

  pub cannot_pack : can_pack (length c.preset) (length c.start) (length c.variable) (length c.running) (length c.done) ≡ false
      → (vars : ℕ) → timers_in_range vars (column_timers c) ≡ false
  unfolding column_timers one_length
  cannot_pack e vars = go (one_length c) refl
    where
      go : (b : Bool) → one_length c ≡ b → timers_in_range vars (column_timers c) ≡ false
      go true q =
          let few : leb (length c.preset) most_timers ≡ false = sym (ap (λ b. b && nat_le (length c.preset) most_timers) q) ∙ e in
          let l = joined_length c.preset c.start c.variable c.running c.done in
          let m = leb-false _ _ few in
          ap (timers_in_range vars) (column_timers_lem c q) ∙ too_many_lem vars _ (rw l m)
      go false q = rw q (too_many_lem vars too_many (omega arith))
