-- A list in which the code of every rung does what the rung does scans as the ladder; `Alike` is any relation of the ladder's state to the list's that makes the
-- variables equal. Assumes nothing.
use Rattle.std.specs.Prelude.{◌≡◌, Bool, length, replicate}
use Rattle.std.proofs.Math.Path.{refl, sym, ap}
use Rattle.std.proofs.Common.{◌∙◌, add_assoc}
use Rattle.std.proofs.Math.Bool.{false}
use Rattle.std.proofs.Math.Option.{Option, none, some}
use mathlib.Core.List.{List, [], ◌∷◌, ◌++◌, flat_map}
use Prim.Native.Nat.{ℕ, zero, suc, ◌+◌, ◌-◌, ◌*◌, ◌≤◌}
use Rattle.std.proofs.Math.Nat.{zero-add}
use native.Mathlib.Omega.{arith}
use Rattle.std.proofs.Math.ListN.{get_elem?, length-append}
use Rattle.std.proofs.lemmas.List.{length-replicate}
use Rattle.table.specs.State.{State, SameButScratch}
use Rattle.table.specs.Halt.{Halt, Ended, Stopped}
use Rattle.rungs.specs.Records.{lay, longest}
use Rattle.rungs.proofs.Laws.Layout.{sizes, lay_length, drop_pieces, longest_at}
use Rattle.ladder_definitions.specs.Tree.{Rung, Ladder}
use Rattle.ladder_definitions.specs.Questions.{question7}
use Rattle.ladder_definitions.specs.Entries.{entries_from, rungs_entered, times_entered}
use Rattle.ladder_definitions.specs.Meaning.{Run, left, run_rung, follow, LadderResult, scan_from, scan_ladder}
use Rattle.list_definitions.specs.Instruction.{Instr}
use Rattle.list_definitions.specs.Machine.{InstructionList, Counts, Machine, fresh, begin, halted, scan_machine, scan_list}
use Rattle.list_definitions.proofs.Laws.Watchdog.{scan_end, scan_stop, stops_sooner}
use Rattle.list_definitions.specs.ListScan.{counts_of, scan_ends, scanned as list_scanned}
use Rattle.translation_definitions.specs.Demand3.{EndedAlike, StoppedAlike}
use Rattle.translation_definitions.specs.Agreement.{Agreement, SumsAgree, TimesAgree}
use Rattle.translation_definitions.proofs.Laws.Exec.{Out, exec, machine, drop_head, drop_none, same_machine, counted, counted_instructions, counted_rungs, landing, resumes, exec_run}
use Rattle.translation_definitions.proofs.Laws.Places.{label_of, size_by, list_of, follow_index, following, entered_once}
use Rattle.translation_definitions.proofs.Laws.Times.{tallied, tallied_none, tallied_more, tallied_zeros, rung_entered, rung_fields}

-- From accumulator v and state t the code, which stands at index pc, does what the run x of its rung says, in `least` instructions or more.
pub record RungDid (Alike : State → State → Type 0) (least : ℕ) (code_of : Rung → List Instr) (gs : Ladder) (pc : ℕ) (code : List Instr) (v : Bool) (t : State) (x : Run) : Type 0 where
  pub out : Out
  pub runs : exec code v t ≡ out
  pub alike : Alike (left x) (left out.run)
  pub low : least ≤ out.count
  pub high : out.count ≤ length code
  pub lands : landing pc out.run out.count ≡ follow_index code_of gs (pc + length code) x

-- what stands at the index where a scan halts
Standing : Halt → Option Instr → Type 0
Standing Ended o = o ≡ none
Standing Stopped o = (i : Instr) × (o ≡ some i)

-- From accumulator v, index pc, counts c and state t, the scan of l comes to where the ladder scan x of gs, counted from k, halts, once it has entered the rungs
-- with the labels ls.
record Reached (Alike : State → State → Type 0) (least : ℕ) (gs : Ladder) (l : InstructionList) (k : ℕ) (c : Counts) (pc : ℕ) (v : Bool) (t : State) (ls : List ℕ) (x : LadderResult) : Type 0 where
  instructions : ℕ
  entries : ℕ
  accumulator : Bool
  index : ℕ
  counts : Counts
  state : State
  alike : Alike x.state state
  rungs : x.rungs ≡ k + entries
  counts_instructions : counts.instructions ≡ c.instructions + instructions
  counts_rungs : counts.rungs ≡ c.rungs + entries
  counts_times : question7 gs ≡ none → length c.times ≡ length gs → counts.times ≡ tallied gs ls c.times
  low : entries * least ≤ instructions
  high : instructions ≤ entries * longest l.records
  runs : (j : ℕ) → scan_machine l (instructions + j) (machine v pc c) t ≡ scan_machine l j (machine accumulator index counts) state
  stands : Standing x.halt (get_elem? l.code index)

nonempty : {A : Type 0} (xs : List A) → 1 ≤ length xs → (x : A) × (rest : List A) × (xs ≡ x ∷ rest)
nonempty [] h = absurd (omega arith)
nonempty (x ∷ xs) h = (x, xs, refl)

-- a ladder scan that stops has entered as many rungs as its watchdog says
stopped_count : (all : Ladder) (n k : ℕ) (gs : Ladder) (s : State) → (scan_from all n k gs s).halt ≡ Stopped → (scan_from all n k gs s).rungs ≡ k + n
unfolding scan_from
stopped_count all zero k [] s e = cc
stopped_count all zero k (g ∷ gs) s e = omega arith
stopped_count all (suc n) k [] s e = cc
stopped_count all (suc n) k (g ∷ gs) s e = stopped_count all n (k + 1) (follow all gs (run_rung g s)) (left (run_rung g s)) e ∙ omega arith

module _ (Alike : State → State → Type 0) (equal : (s t : State) → Alike s t → SameButScratch s t) (least : ℕ) (code : Rung → List Instr) (gs : Ladder) (positive : 1 ≤ least)
    (did : (pre : Ladder) (g : Rung) (post : Ladder) → gs ≡ pre ++ g ∷ post → (s t : State) (v : Bool) → Alike s t
    → RungDid Alike least code gs (sizes (size_by code) pre) (code g) v t (run_rung g s)) where
  abbrev place : Ladder → ℕ
  place = sizes (size_by code)

  -- a scan that halts here
  here : (k : ℕ) (c : Counts) (v : Bool) (pc : ℕ) (s t : State) (h : Halt) → Alike s t → Standing h (get_elem? (flat_map code gs) pc)
      → Reached Alike least gs (list_of code gs) k c pc v t [] (record { halt = h; rungs = k; state = s })
  unfolding list_of
  here k c v pc s t h p st = record {
    instructions = 0;
    entries = 0;
    accumulator = v;
    index = pc;
    counts = c;
    state = t;
    alike = p;
    rungs = omega arith;
    counts_instructions = omega arith;
    counts_rungs = omega arith;
    counts_times = λ differ many. sym (tallied_none gs c.times many);
    low = omega arith;
    high = omega arith;
    runs = λ j. rw zero-add refl;
    stands = st;
  }

  rung_step : (pre : Ladder) (g : Rung) (post : Ladder) (v : Bool) (t : State) (o : Out) → gs ≡ pre ++ g ∷ post → exec (code g) v t ≡ o
      → (c : Counts) (j : ℕ)
      → scan_machine (list_of code gs) (o.count + j) (machine v (place pre) c) t
      ≡ scan_machine (list_of code gs) j (machine o.accumulator (landing (place pre) o.run o.count) (counted (list_of code gs) (place pre) o.count c)) (left o.run)
  unfolding resumes flat_map list_of
  rung_step pre g post v t o e x c j =
      rw x at (exec_run (list_of code gs) (code g) (flat_map code post) (place pre) (drop_pieces code gs pre (g ∷ post) e) j v t c)

  -- every rung has an instruction
  some_code : (s t : State) (v : Bool) → Alike s t → (pre : Ladder) (g : Rung) (post : Ladder) → gs ≡ pre ++ g ∷ post → 1 ≤ length (code g)
  some_code s t v p pre g post e =
      let d = did pre g post e s t v p in
      let low = d.low in let high = d.high in
      omega arith

  -- the scan from the rungs `rest` on
  reached : (n k : ℕ) (c : Counts) (v : Bool) (pre rest : Ladder) (s t : State) → gs ≡ pre ++ rest → Alike s t
      → Reached Alike least gs (list_of code gs) k c (place pre) v t (entries_from gs n rest s) (scan_from gs n k rest s)
  unfolding scan_from entries_from flat_map Standing list_of
  reached zero k c v pre [] s t e p = here k c v (place pre) s t Ended p (drop_none (flat_map code gs) (place pre) (drop_pieces code gs pre [] e))
  reached zero k c v pre (g ∷ rest) s t e p =
      let d = did pre g rest e s t v p in
      let dl = d.low in let dh = d.high in
      let q = nonempty (code g ++ flat_map code rest) (rw length-append (omega arith)) in
      here k c v (place pre) s t Stopped p (q.0, drop_head (flat_map code gs) (place pre) (drop_pieces code gs pre (g ∷ rest) e ∙ q.2))
  reached (suc n) k c v pre [] s t e p = here k c v (place pre) s t Ended p (drop_none (flat_map code gs) (place pre) (drop_pieces code gs pre [] e))
  reached (suc n) k c v pre (g ∷ rest) s t e p =
      let x = run_rung g s in
      let d = did pre g rest e s t v p in
      let m = d.out.count in
      let low = d.low in
      let high = d.high in
      let f = following code gs pre g rest x e in
      let c' = counted (list_of code gs) (place pre) m c in
      let ci = counted_instructions (list_of code gs) (place pre) m c in
      let cr = counted_rungs (list_of code gs) (place pre) m c in
      let once = entered_once code gs pre g rest m e (omega arith) high in
      let y = reached n (k + 1) c' d.out.accumulator f.0 (follow gs rest x) (left x) (left d.out.run) f.1 d.alike in
      let yr = y.rungs in let yl = y.low in let yh = y.high in let yi = y.counts_instructions in let yc = y.counts_rungs in
      let longest-is = longest_at label_of (size_by code) gs pre g rest e in
      record {
        instructions = m + y.instructions;
        entries = suc y.entries;
        accumulator = y.accumulator;
        index = y.index;
        counts = y.counts;
        state = y.state;
        alike = y.alike;
        rungs = yr ∙ omega arith;
        counts_instructions = omega arith;
        counts_rungs = omega arith;
        counts_times = λ differ many.
            let long = some_code s t v p in
            y.counts_times differ (rung_fields code gs differ long pre g rest e m c (omega arith) high many)
            ∙ ap (tallied gs (entries_from gs n (follow gs rest x) (left x))) (rung_entered code gs differ long pre g rest e m c (omega arith) high many)
            ∙ tallied_more gs g.label (entries_from gs n (follow gs rest x) (left x)) c.times;
        low = omega arith;
        high = omega arith;
        runs = λ j. ap (λ i. scan_machine (list_of code gs) i (machine v (place pre) c) t) (add_assoc m y.instructions j)
            ∙ rung_step pre g rest v t d.out e d.runs c (y.instructions + j)
            ∙ same_machine (list_of code gs) (y.instructions + j) d.out.accumulator (left d.out.run) (d.lands ∙ f.2) refl
            ∙ y.runs j;
        stands = y.stands;
      }

  module _ (s : State) (n : ℕ) (alike : Alike s s) where
    both : Reached Alike least gs (list_of code gs) 0 (begin (list_of code gs)).counts 0 false s (rungs_entered gs n s) (scan_ladder gs n s)
    unfolding scan_ladder rungs_entered sizes
    both = reached n 0 (begin (list_of code gs)).counts false [] gs s s refl alike

    abbrev last : Machine
    last = machine both.accumulator both.index both.counts

    -- a list scan under this watchdog comes to its end
    ended_at : (w : ℕ) → (scan_ladder gs n s).halt ≡ Ended → (scan_ladder gs n s).rungs * longest (list_of code gs).records ≤ w
        → scan_list (list_of code gs) w s ≡ halted Ended last both.state
    unfolding scan_list Standing begin fresh
    ended_at w e h =
        let N = both.instructions in
        let high = both.high in
        let h' = rw both.rungs at h in
        let ends = scan_end (list_of code gs) (w - N) last both.state (rw e at both.stands) in
        let fuel : w ≡ N + (w - N) = omega arith in
        ap (λ i. scan_machine (list_of code gs) i (begin (list_of code gs)) s) fuel ∙ both.runs (w - N) ∙ ends

    ended_alike : (w : ℕ) → (scan_ladder gs n s).halt ≡ Ended → (scan_ladder gs n s).rungs * longest (list_of code gs).records ≤ w
        → EndedAlike least (longest (list_of code gs).records) (scan_ladder gs n s).rungs (scan_ladder gs n s).state
        (scan_ends (scan_list (list_of code gs) w s)).answer (scan_list (list_of code gs) w s).state
    unfolding scan_ends halted begin fresh list_of
    ended_alike w e h =
        let rungs = both.rungs in
        let low = both.low in
        let high = both.high in
        let ci = both.counts_instructions in
        let cr = both.counts_rungs in
        let q = ended_at w e h in
        record {
          counts = counts_of (halted Ended last both.state);
          ended = ap (λ x. (scan_ends x).answer) q;
          same = rw q (equal _ _ both.alike);
          rungs = omega arith;
          at_least = rw rungs (omega arith);
          at_most = rw rungs (omega arith);
        }

    stopped_alike : (w : ℕ) → (scan_ladder gs n s).halt ≡ Stopped → w ≤ least * n → StoppedAlike (scan_ends (scan_list (list_of code gs) w s)).answer
    unfolding scan_list scan_ladder scan_ends Standing halted begin fresh list_of
    stopped_alike w e h =
        let N = both.instructions in
        let rungs = both.rungs in
        let low = both.low in
        let st = rw e at both.stands in
        let count = stopped_count gs n 0 gs s e in
        let entries : both.entries ≡ n = omega arith in
        let low' = rw entries at low in
        let stops = scan_stop (list_of code gs) last both.state st.0 st.1 in
        let fuel : w + (N - w) ≡ N + 0 = omega arith in
        let q = ap (λ i. scan_machine (list_of code gs) i (begin (list_of code gs)) s) fuel ∙ both.runs 0 ∙ stops in
        let halt = stops_sooner (list_of code gs) w (N - w) (begin (list_of code gs)) s (ap (λ x. x.halt) q) in
        record { counts = counts_of (scan_list (list_of code gs) w s); stopped = ap (λ h. list_scanned h (counts_of (scan_list (list_of code gs) w s))) halt }

    pub agrees : Agreement least gs (list_of code gs) s n
    agrees = record { ended = ended_alike; stopped = stopped_alike }

    -- where the relation makes the sums equal too
    pub sums_agree : ((s t : State) → Alike s t → s.moved ≡ t.moved) → SumsAgree gs (list_of code gs) s n
    unfolding scan_ends halted
    sums_agree moved =
        record {
          ended = λ w e h. record {
            counts = counts_of (halted Ended last both.state);
            ended = ap (λ x. (scan_ends x).answer) (ended_at w e h);
            same = sym (moved _ _ both.alike);
          };
        }

    -- where no two rungs have one label
    pub times_agree : question7 gs ≡ none → TimesAgree gs (list_of code gs) s n
    unfolding halted begin fresh list_of times_entered
    times_agree differ =
        let many = lay_length label_of (size_by code) 0 gs in
        record {
          ended = λ w e h. ap (λ x. x.counts.times) (ended_at w e h)
              ∙ both.counts_times differ (length-replicate (length (lay label_of (size_by code) 0 gs)) 0 ∙ many)
              ∙ ap (λ (m : ℕ). tallied gs (rungs_entered gs n s) (replicate m 0)) many
              ∙ tallied_zeros gs (rungs_entered gs n s);
        }
