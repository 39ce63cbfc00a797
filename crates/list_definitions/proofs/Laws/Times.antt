-- The times entered: one for each record, none more than the instructions carried out, and together the rungs entered (02, Req 04). Assumes nothing.
use Prim.Native.Nat.{ℕ, zero, suc, ◌+◌, ◌<◌}
use Rattle.std.proofs.Common.{add-zero, arith, ◌∙◌, ne_eqb, eqb→eq, ltb→lt}
use Rattle.std.specs.Prelude.{◌≡◌, Bool, true, false, ◌||◌, T, eqb, ltb, length, replicate}
use Rattle.std.proofs.Math.Path.{refl, ap}
use Rattle.std.proofs.Math.Option.{Option, none, some}
use mathlib.Core.List.{List, [], ◌∷◌, zip_with}
use Rattle.std.proofs.Math.Facts.{and_yes}
use Rattle.std.proofs.Math.ListN.{get_elem?, length-replicate}
use Rattle.questions.specs.Tests.{all, bit}
use Rattle.questions.proofs.Laws.Tests.{all_head, all_tail}
use Rattle.table.specs.State.{State}
use Rattle.rungs.specs.Records.{RungRecord, laid, is_start, enter, sum}
use Rattle.list_definitions.specs.Instruction.{Instr}
use Rattle.list_definitions.specs.Machine.{InstructionList, Counts, Machine, count, step, halted, scan_machine, fresh, begin, scan_list}
use Rattle.list_definitions.specs.Questions.{records_laid}
use Rattle.list_definitions.proofs.Laws.Watchdog.{scan_end, scan_stop, scan_step}

abbrev long : RungRecord → Bool
long r = ltb 0 r.length

-- a record laid from `start` on, none of length 0
record First (start end : ℕ) (r : RungRecord) (rs : List RungRecord) : Type 0 where
  here : r.offset ≡ start
  some_length : 0 < r.length
  rest : T (laid (start + r.length) end rs)

first : (start end : ℕ) (r : RungRecord) (rs : List RungRecord) → T (laid start end (r ∷ rs)) → T (all long (r ∷ rs)) → First start end r rs
unfolding laid
first start end r rs h k =
    let hh = and_yes (eqb r.offset start) (laid (start + r.length) end rs) h in
    record { here = eqb→eq r.offset start hh.0; some_length = ltb→lt 0 r.length (all_head long r rs k); rest = hh.1 }

not_before : (start end i : ℕ) (rs : List RungRecord) → T (laid start end rs) → T (all long rs) → i < start → is_start rs i ≡ false
unfolding is_start
not_before start end i [] h k l = refl
not_before start end i (r ∷ rs) h k l =
    let f = first start end r rs h k in
    let e = f.here in
    rw (ne_eqb r.offset i (λ q. omega arith)) (not_before (start + r.length) end i rs f.rest (all_tail long r rs k) (omega arith))

-- a field for each record stays so
pub enter_length : (rs : List RungRecord) (i : ℕ) (ns : List ℕ) → length ns ≡ length rs → length (enter rs i ns) ≡ length rs
unfolding enter zip_with
enter_length [] i ns e = refl
enter_length (r ∷ rs) i [] e = e
enter_length (r ∷ rs) i (n ∷ ns) e = let k = enter_length rs i ns (omega arith) in omega arith

-- an instruction that stands at no record's offset enters none
pub enter_none : (rs : List RungRecord) (i : ℕ) (ns : List ℕ) → is_start rs i ≡ false → length ns ≡ length rs → enter rs i ns ≡ ns
unfolding enter is_start zip_with
enter_none [] i [] q e = refl
enter_none [] i (n ∷ ns) q e = absurd (omega arith)
enter_none (r ∷ rs) i [] q e = absurd (omega arith)
enter_none (r ∷ rs) i (n ∷ ns) q e = go (eqb r.offset i) refl (enter_none rs i ns)
  where
    go : (b : Bool) → eqb r.offset i ≡ b → (is_start rs i ≡ false → length ns ≡ length rs → enter rs i ns ≡ ns) → (n + bit (eqb r.offset i)) ∷ enter rs i ns ≡ n ∷ ns
    go true b ih = let z : true ≡ false = rw b at q in let k : ◌≡◌ {A = ℕ} 0 1 = cc in absurd (omega arith)
    go false b ih = rw (b, add-zero) (ap (λ (ms : List ℕ). n ∷ ms) (ih (rw b at q) (omega arith)))

enter_sum : (start end : ℕ) (rs : List RungRecord) (i : ℕ) (ns : List ℕ) → T (laid start end rs) → T (all long rs) → length ns ≡ length rs → sum (enter rs i ns) ≡ sum ns + bit (is_start rs i)
unfolding enter sum is_start zip_with
enter_sum start end [] i [] h k e = omega arith
enter_sum start end [] i (n ∷ ns) h k e = absurd (omega arith)
enter_sum start end (r ∷ rs) i [] h k e = absurd (omega arith)
enter_sum start end (r ∷ rs) i (n ∷ ns) h k e = go (eqb r.offset i) refl (enter_sum (start + r.length) end rs i ns f.rest (all_tail long r rs k) (omega arith))
  where
    f : First start end r rs
    f = first start end r rs h k

    go : (b : Bool) → eqb r.offset i ≡ b → sum (enter rs i ns) ≡ sum ns + bit (is_start rs i) → n + bit (eqb r.offset i) + sum (enter rs i ns) ≡ n + sum ns + bit (eqb r.offset i || is_start rs i)
    go true q ih =
        let here : r.offset ≡ i = eqb→eq r.offset i (rw q tt) in
        let at_start = f.here in let some = f.some_length in
        let ih' = rw (not_before (start + r.length) end i rs f.rest (all_tail long r rs k) (omega arith)) at ih in
        rw q (omega arith)
    go false q ih = rw q (omega arith)

sum_zeros : (n : ℕ) → sum (replicate n 0) ≡ 0
unfolding sum
sum_zeros zero = refl
sum_zeros (suc n) = ap (λ (k : ℕ). 0 + k) (sum_zeros n)

module _ (l : InstructionList) (ok : T (records_laid (length l.code) l.records)) where
  record Adds (c : Counts) : Type 0 where
    each : length c.times ≡ length l.records
    adds : sum c.times ≡ c.rungs

  count_adds : (i : ℕ) (c : Counts) → Adds c → Adds (count l.records i c)
  unfolding count records_laid
  count_adds i c a =
      let k = and_yes (laid 0 (length l.code) l.records) (all long l.records) ok in
      record {
        each = enter_length l.records i c.times a.each;
        adds = enter_sum 0 (length l.code) l.records i c.times k.0 k.1 a.each ∙ ap (λ n. n + bit (is_start l.records i)) a.adds;
      }

  scan_adds : (n : ℕ) (m : Machine) (s : State) → Adds m.counts → Adds (scan_machine l n m s).counts
  unfolding halted step
  scan_adds zero m s a = go (get_elem? l.code m.index) refl
    where
      go : (o : Option Instr) → get_elem? l.code m.index ≡ o → Adds (scan_machine l 0 m s).counts
      go none e = rw (scan_end l 0 m s e) a
      go (some i) e = rw (scan_stop l m s i e) a
  scan_adds (suc n) m s a = go (get_elem? l.code m.index) refl (λ i. scan_adds n (step l.records i m s).0 (step l.records i m s).1 (count_adds m.index m.counts a))
    where
      go : (o : Option Instr) → get_elem? l.code m.index ≡ o
          → ((i : Instr) → Adds (scan_machine l n (step l.records i m s).0 (step l.records i m s).1).counts) → Adds (scan_machine l (suc n) m s).counts
      go none e ih = rw (scan_end l (suc n) m s e) a
      go (some i) e ih = rw (scan_step l n m s i e) (ih i)

  scanned : (w : ℕ) (s : State) → Adds (scan_list l w s).counts
  unfolding scan_list begin fresh
  scanned w s = scan_adds w _ s (record { each = length-replicate (length l.records) 0; adds = sum_zeros (length l.records) })

  pub each_time : (w : ℕ) (s : State) → length (scan_list l w s).counts.times ≡ length l.records
  each_time w s = (scanned w s).each

  pub times_sum : (w : ℕ) (s : State) → sum (scan_list l w s).counts.times ≡ (scan_list l w s).counts.rungs
  times_sum w s = (scanned w s).adds
