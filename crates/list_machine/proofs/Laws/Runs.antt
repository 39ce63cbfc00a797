-- Laws of the scan's loop: a scan from where the machine stands is the scan from the start. Assumes nothing.
use Prim.Native.Nat.{ℕ, zero, suc, ◌+◌, ◌-◌, ◌≤◌, ◌<◌, ◌^◌}
use Rattle.std.proofs.Math.Nat.{sub-zero}
use native.Mathlib.Omega.{arith}
use Rattle.std.proofs.Math.Decide.{ℕ_discrete}
use Rattle.std.specs.Prelude.{◌≡◌, Bool, not, ◌&&◌, List, [], ◌∷◌, map, T, eqb, ltb, length, get_or}
use Rattle.std.proofs.Math.Path.{refl, sym, ap}
use Rattle.std.proofs.Common.{◌∙◌, ltb-true, leb-true, leb-false, eqb-true}
use Rattle.std.proofs.Math.Bool.{true, false}
use Rattle.std.proofs.Math.Option.{none, some}
use Rattle.std.proofs.Math.Dec.{leb}
use Rattle.std.proofs.Math.ListN.{get_elem?}
use Rattle.std.proofs.lemmas.List.{length-map}
use Rattle.std.proofs.lemmas.Bool.{eqb-false}
use Rattle.questions.specs.Tests.{bit, all}
use Rattle.questions.proofs.Laws.Tests.{all_head, all_tail, bit_few}
use Rattle.table.specs.Timer.{Timer}
use Rattle.table.specs.State.{State}
use Rattle.table.specs.TimerRecords.{timers_in}
use Rattle.table.specs.Parts.{state_in}
use Rattle.table.specs.declared.State.{State as StateStruct}
use Rattle.rungs.specs.Records.{RungRecord, offsets, is_start, enter, none_entered}
use Rattle.list_definitions.specs.Instruction.{Instr, instr_word, instr_fits, decode_instr, decode_code}
use Rattle.list_definitions.specs.Machine.{InstructionList, fresh, begin, halted, scan_machine, scan_list}
use Rattle.list_definitions.specs.ListScan.{counts_in, scan_ends, list_scanned_answer}
use Rattle.list_machine.specs.Parts.{machine_of, Stepped, begins_here, starts_here, counted, ascending, before, Sought, Followed, first_machine, runs_on, counts_of, halted_at, Ran, Scanned}
use Rattle.list_definitions.proofs.Laws.Decoding.{decode_instr_lem, code_decoded}
use Rattle.list_definitions.proofs.Laws.Watchdog.{scan_end, scan_stop, scan_step}
use Rattle.list_definitions.specs.declared.Counts.{Counts as CountsStruct}
use Rattle.table.specs.declared.Halt.{Halt as HaltCase}
use Rattle.table.specs.declared.Halt.TheVariants.{Ended as EndedCase, Stopped as StoppedCase}
use Rattle.list_machine.specs.declared.Machine.{Machine as MachineStruct}
use Rattle.list_machine.specs.declared.Place.{Place}
use Rattle.list_machine.proofs.Laws.Seeks.{before_zero, carried_on}
use Rattle.list_machine.proofs.Laws.Entries.{FewTimes, few_zeros, few_counted, entered_here, counted_length}

-- ---- the word at an index and its instruction

record Word (ws : List ℕ) (is : List Instr) (k : ℕ) : Type 0 where
  instr : Instr
  stands : get_elem? is k ≡ some instr
  decodes : decode_instr (get_or ws k 0) ≡ some instr

word_of : (is : List Instr) (k : ℕ) → T (all instr_fits is) → k < length is → Word (map instr_word is) is k
word_of [] k h l = absurd (omega arith)
word_of (i ∷ is) zero h l = record { instr = i; stands = refl; decodes = decode_instr_lem i (all_head instr_fits i is h) }
word_of (i ∷ is) (suc k) h l = let w = word_of is k (all_tail instr_fits i is h) (omega arith) in record { instr = w.instr; stands = w.stands; decodes = w.decodes }

past_end : (is : List Instr) (k : ℕ) → length is ≤ k → get_elem? is k ≡ none
past_end [] zero h = refl
past_end [] (suc k) h = refl
past_end (i ∷ is) zero h = absurd (omega arith)
past_end (i ∷ is) (suc k) h = past_end is k (omega arith)

module _ (ws : List ℕ) (is : List Instr) (d : decode_code ws ≡ some is) where
  same_length : length ws ≡ length is
  same_length = rw (code_decoded ws is d).0 (length-map is instr_word)

  word_at : (k : ℕ) → k < length ws → Word ws is k
  word_at k h = let c = code_decoded ws is d in let l = same_length in rw c.0 (word_of is k c.1 (omega arith))

  at_end_lem : (k : ℕ) → length ws ≤ k → get_elem? is k ≡ none
  at_end_lem k h = let l = same_length in past_end is k (omega arith)

-- ---- the next record

pub starts_few : (os : List ℕ) (next i : ℕ) → starts_here os next i ≤ 1
unfolding starts_here
starts_few os next i = bit_few (ltb next (length os) && eqb (get_or os next 0) i)

pub starts_within : (os : List ℕ) (next i : ℕ) → next ≤ length os → next + starts_here os next i ≤ length os
unfolding starts_here
starts_within os next i h = go (ltb next (length os)) refl
  where
    go : (b : Bool) → ltb next (length os) ≡ b → next + bit (ltb next (length os) && eqb (get_or os next 0) i) ≤ length os
    go true e = let l = ltb-true next (length os) e in let f = bit_few (ltb next (length os) && eqb (get_or os next 0) i) in omega arith
    go false e = rw e (omega arith)

row_for : List ℕ → List RungRecord
row_for os = map (λ o. record { label = 0; offset = o; length = 0 }) os

row_for_lem : (os : List ℕ) → offsets (row_for os) ≡ os
unfolding row_for
row_for_lem [] = refl
row_for_lem (o ∷ os) = ap (λ l. o ∷ l) (row_for_lem os)

next_straight : (os : List ℕ) (i : ℕ) → ascending 0 os → before os (i + 1) ≡ before os i + starts_here os (before os i) i
next_straight os i a = rw (row_for_lem os) at (carried_on 0 (row_for os) i (rw (row_for_lem os) a)).next

start_here : (rs : List RungRecord) (os : List ℕ) (i next : ℕ) → offsets rs ≡ os → ascending 0 os → next ≡ before os i → starts_here os next i ≡ bit (is_start rs i)
start_here rs os i next e a q = rw (q, ← e) (carried_on 0 rs i (rw e a)).start

-- as many times entered as offsets are as many as records
many_records : (rs : List RungRecord) (os ts : List ℕ) → offsets rs ≡ os → length ts ≡ length os → length ts ≡ length rs
many_records rs os ts o many = many ∙ ap (λ x. length x) (sym o) ∙ length-map rs (λ r. r.offset)

count_here : (rs : List RungRecord) (os : List ℕ) (i next : ℕ) (ts : List ℕ) → offsets rs ≡ os → ascending 0 os → next ≡ before os i → length ts ≡ length rs
    → counted ts next (starts_here os next i) ≡ enter rs i ts
count_here rs os i next ts o a q many = rw (q, ← o) (entered_here 0 rs i ts (rw o a) many)

-- ---- the loop's invariant: with the times entered and the state, `b` and `s` at the start, `ts` and `u` now

pub record Running (ws os b : List ℕ) (s : StateStruct) (w : ℕ) (ts : List ℕ) (u : StateStruct) (m : MachineStruct) (next : ℕ) : Type 0 where
  pub same : (l : InstructionList) → decode_code ws ≡ some l.code → offsets l.records ≡ os → ascending 0 os
      → scan_machine l (w - m.instructions) (machine_of m ts) (state_in u) ≡ scan_list l w (state_in s)
  pub next_is : ascending 0 os → next ≡ before os m.index
  pub next_within : next ≤ length os
  pub carried : m.instructions ≤ w
  pub few_rungs : m.rungs ≤ m.instructions
  pub few_moved : u.moved ≤ m.instructions
  pub few_times : FewTimes ts m.instructions
  pub many : length ts ≡ length b
  pub even : length b ≡ length os

pub running_first : (ws os b : List ℕ) (at : StateStruct) (w : ℕ) → at.moved ≡ 0 → length b ≡ length os → b ≡ none_entered (length b)
    → Running ws os b at w b at first_machine 0
unfolding scan_list begin fresh machine_of first_machine
running_first ws os b at w first e zeros = record {
  same = λ l d o a.
      let n = many_records l.records os b o e in
      let z : b ≡ none_entered (length l.records) = zeros ∙ ap (λ k. none_entered k) n in
      rw (sub-zero, z) refl;
  next_is = λ a. sym (before_zero os);
  next_within = omega arith;
  carried = omega arith;
  few_rungs = omega arith;
  few_moved = omega arith;
  few_times = rw zeros (few_zeros (length b));
  many = refl;
  even = e;
}

module _ (ws os b : List ℕ) (s : StateStruct) (w : ℕ) (ts : List ℕ) (u : StateStruct) (m : MachineStruct) (next : ℕ) (r : Running ws os b s w ts u m next) where
  pub ran_ended : length ws ≤ m.index → Ran ws os b (state_in s) w (EndedCase (counts_of m u.moved)) ts u.table.now (timers_in u.timers.now)
  unfolding halted scan_ends counts_in list_scanned_answer machine_of
  ran_ended h = record {
    same = λ l d o a.
        let e = sym (scan_end l (w - m.instructions) (machine_of m ts) (state_in u) (at_end_lem ws l.code d m.index h)) ∙ r.same l d o a in
        record { answer = ap (λ x. (scan_ends x).answer) e; same_table = ap (λ x. (scan_ends x).table) e; same_timers = ap (λ x. (scan_ends x).timers) e; same_times = ap (λ x. (scan_ends x).times b) e };
  }

  pub ran_stopped : m.index < length ws → m.instructions ≡ w
      → Ran ws os b (state_in s) w (StoppedCase (counts_of m u.moved)) ts u.table.now (timers_in u.timers.now)
  unfolding halted scan_ends counts_in list_scanned_answer machine_of
  ran_stopped h z = record {
    same = λ l d o a.
        let k = word_at ws l.code d m.index h in
        let n : w - m.instructions ≡ 0 = omega arith in
        let stop = scan_stop l (machine_of m ts) (state_in u) k.instr k.stands in
        let e = sym stop ∙ (rw n at (r.same l d o a)) in
        record { answer = ap (λ x. (scan_ends x).answer) e; same_table = ap (λ x. (scan_ends x).table) e; same_timers = ap (λ x. (scan_ends x).timers) e; same_times = ap (λ x. (scan_ends x).times b) e };
  }

  module _ (h : m.index < length ws) (z : m.instructions ≡ w → ⊥) (m' : MachineStruct) (ts' : List ℕ) (u' : StateStruct)
      (entered : ℕ) (es : entered ≡ starts_here os next m.index) (counts : ts' ≡ counted ts next entered) (did : Stepped (get_or ws m.index 0) entered m u m' u') where
    same_after : (l : InstructionList) → decode_code ws ≡ some l.code → offsets l.records ≡ os → ascending 0 os
        → scan_machine l (w - m'.instructions) (machine_of m' ts') (state_in u') ≡ scan_list l w (state_in s)
    unfolding machine_of
    same_after l d o a =
        let k = word_at ws l.code d m.index h in
        let c = did.carried in
        let q = r.carried in
        let n : w - m.instructions ≡ suc (w - m'.instructions) = omega arith in
        let times : ts' ≡ enter l.records m.index ts = counts ∙ rw es (count_here l.records os m.index next ts o a (r.next_is a) (many_records l.records os ts o (r.many ∙ r.even))) in
        let st = did.same k.instr k.decodes l.records (es ∙ start_here l.records os m.index next o a (r.next_is a)) ts in
        let go = scan_step l (w - m'.instructions) (machine_of m ts) (state_in u) k.instr k.stands in
        rw times (sym (rw st at go) ∙ (rw n at (r.same l d o a)))

    next_after : (next' : ℕ) → next' ≤ length os → (ascending 0 os → next' ≡ before os m'.index) → Running ws os b s w ts' u' m' next'
    next_after next' within nx =
        let c = did.carried in let g = did.rungs in let f = r.few_rungs in let moves = did.moved in let few = r.few_moved in let q = r.carried in let k = starts_few os next m.index in
        record {
          same = same_after;
          next_is = nx;
          next_within = within;
          carried = omega arith;
          few_rungs = omega arith;
          few_moved = omega arith;
          few_times = rw (counts, c) (few_counted ts m.instructions next entered r.few_times (omega arith));
          many = rw counts (counted_length ts next entered) ∙ r.many;
          even = r.even;
        }

    pub run_straight : m'.index ≡ m.index + 1 → Running ws os b s w ts' u' m' (next + entered)
    run_straight j = next_after (next + entered) (rw es (starts_within os next m.index r.next_within))
        (λ a. rw (j, es, next_straight os m.index a, r.next_is a) refl)

    pub run_jump : (found : ℕ) → Sought os m'.index found → Running ws os b s w ts' u' m' found
    run_jump found k = next_after found k.within k.same

-- ---- the same over a place

-- the machine is before the end, and the watchdog has not come
pub record RunsOn (end w : ℕ) (m : MachineStruct) : Type 0 where
  pub inside : m.index < end
  pub left : m.instructions ≡ w → ⊥

pub runs_on_lem : (end w : ℕ) (m : MachineStruct) → runs_on end w m ≡ true → RunsOn end w m
unfolding runs_on
runs_on_lem end w m e = go (leb end m.index) (eqb m.instructions w) refl refl e
  where
    no_path : ◌≡◌ {A = Bool} false true → RunsOn end w m
    no_path h = let z : ◌≡◌ {A = ℕ} 0 1 = cc in absurd (omega arith)

    go : (a b : Bool) → leb end m.index ≡ a → eqb m.instructions w ≡ b → (not a && not b) ≡ true → RunsOn end w m
    go true b p q h = no_path h
    go false true p q h = no_path h
    go false false p q h = record { inside = leb-false _ _ p; left = eqb-false _ _ q }

pub halts : (end w : ℕ) (m : MachineStruct) → runs_on end w m ≡ false → m.index < end → m.instructions ≡ w
unfolding runs_on
halts end w m e h = go (leb end m.index) (eqb m.instructions w) refl refl e
  where
    go : (a b : Bool) → leb end m.index ≡ a → eqb m.instructions w ≡ b → (not a && not b) ≡ false → m.instructions ≡ w
    go true b p q k = let l = leb-true end m.index p in absurd (omega arith)
    go false true p q k = eqb-true _ _ q
    go false false p q k = cc

pub record Standing (ws os b : List ℕ) (s : StateStruct) (w : ℕ) (ts : List ℕ) (u : StateStruct) (m : MachineStruct) (place : Place) : Type 0 where
  pub running : Running ws os b s w ts u m place.next
  pub same_index : place.index ≡ m.index
  pub starts : place.entered ≡ begins_here os place.next m.index
  pub same_table : u.table.ghost_name ≡ s.table.ghost_name
  pub same_timers : u.timers.ghost_name ≡ s.timers.ghost_name

pub standing_first : (ws os b : List ℕ) (at : StateStruct) (w : ℕ) (place : Place) → at.moved ≡ 0 → length b ≡ length os → b ≡ none_entered (length b) → place.index ≡ 0 → place.next ≡ 0 → place.entered ≡ begins_here os 0 0
    → Standing ws os b at w b at first_machine place
unfolding first_machine
standing_first ws os b at w place first even zeros i n e = record {
  running = rw n (running_first ws os b at w first even zeros);
  same_index = i;
  starts = rw n e;
  same_table = refl;
  same_timers = refl;
}

-- what one more instruction asks for
pub record StandingNeeds (ws os ts : List ℕ) (u : StateStruct) (m : MachineStruct) (place : Place) : Type 0 where
  pub inside : m.index < length ws
  pub instructions : m.instructions + 1 < 2 ^ 32
  pub rungs : m.rungs + bit place.entered < 2 ^ 32
  pub moved : u.moved + 1 < 2 ^ 32
  pub times_within : place.next + bit place.entered ≤ length ts
  pub times : get_or ts place.next 0 + bit place.entered < 2 ^ 32
  pub same_index : place.index ≡ m.index
  pub next_within : place.next + bit place.entered ≤ length os

module _ (ws os b : List ℕ) (s : StateStruct) (w : ℕ) (ts : List ℕ) (u : StateStruct) (m : MachineStruct) (place : Place) (standing : Standing ws os b s w ts u m place) where
  pub standing_needs : w < 2 ^ 32 → runs_on (length ws) w m ≡ true → StandingNeeds ws os ts u m place
  unfolding starts_here
  standing_needs fits on =
      let r = standing.running in
      let o = runs_on_lem (length ws) w m on in
      let z = o.left in
      let e = ap bit standing.starts in
      let carried = r.carried in
      let few_rungs = r.few_rungs in
      let few_moved = r.few_moved in
      let many = r.many in
      let even = r.even in
      let few_times = r.few_times.few place.next in
      let one = starts_few os place.next m.index in
      let within = starts_within os place.next m.index r.next_within in
      record {
        inside = o.inside;
        instructions = omega arith;
        rungs = omega arith;
        moved = omega arith;
        times_within = omega arith;
        times = omega arith;
        same_index = standing.same_index;
        next_within = omega arith;
      }

  pub standing_next : runs_on (length ws) w m ≡ true → (m' : MachineStruct) (ts' : List ℕ) (u' : StateStruct) → ts' ≡ counted ts place.next (bit place.entered)
      → Stepped (get_or ws m.index 0) (bit place.entered) m u m' u' → (place' : Place) → Followed os place m'.index place' → Standing ws os b s w ts' u' m' place'
  unfolding starts_here
  standing_next on m' ts' u' c did place' f = record {
    running = go (ℕ_discrete m'.index (place.index + 1));
    same_index = f.here;
    starts = f.starts;
    same_table = did.same_table ∙ standing.same_table;
    same_timers = did.same_timers ∙ standing.same_timers;
  }
    where
      o : RunsOn (length ws) w m
      o = runs_on_lem (length ws) w m on

      entered : bit place.entered ≡ starts_here os place.next m.index
      entered = ap bit standing.starts

      go : Dec (m'.index ≡ place.index + 1) → Running ws os b s w ts' u' m' place'.next
      go (yes q) = rw (f.straight q)
          (run_straight ws os b s w ts u m place.next standing.running o.inside o.left m' ts' u' (bit place.entered) entered c did (q ∙ ap (λ i. i + 1) standing.same_index))
      go (no n) = run_jump ws os b s w ts u m place.next standing.running o.inside o.left m' ts' u' (bit place.entered) entered c did place'.next (f.found n)

  pub standing_less : runs_on (length ws) w m ≡ true → (m' : MachineStruct) (u' : StateStruct) → Stepped (get_or ws m.index 0) (bit place.entered) m u m' u'
      → w - m'.instructions < w - m.instructions
  standing_less on m' u' did =
      let z = (runs_on_lem (length ws) w m on).left in
      let c = did.carried in
      let carried = standing.running.carried in
      omega arith

  pub standing_ends : runs_on (length ws) w m ≡ false → Scanned ws os b s w (halted_at (length ws) u.moved m) ts u
  unfolding halted_at
  standing_ends off = record { ran = go (leb (length ws) m.index) refl; same_table = standing.same_table; same_timers = standing.same_timers }
    where
      go : (q : Bool) → leb (length ws) m.index ≡ q → Ran ws os b (state_in s) w (halted_at (length ws) u.moved m) ts u.table.now (timers_in u.timers.now)
      go true e = rw (e, halted_at) (ran_ended ws os b s w ts u m place.next standing.running (leb-true _ _ e))
      go false e = rw (e, halted_at)
          (ran_stopped ws os b s w ts u m place.next standing.running (leb-false _ _ e) (halts (length ws) w m off (leb-false _ _ e)))

-- ---- a scan from zeros, over times entered of which any value is taken

pub ran_over : (ws os before zeros : List ℕ) (s : State) (w : ℕ) (r : HaltCase CountsStruct) (after u : List ℕ) (ts : List Timer) → Ran ws os zeros s w r after u ts
    → Ran ws os before s w r after u ts
unfolding scan_ends
ran_over ws os before zeros s w r after u ts ran = record {
  same = λ l d o a.
      let done = ran.same l d o a in
      record { answer = done.answer; same_table = done.same_table; same_timers = done.same_timers; same_times = done.same_times };
}
