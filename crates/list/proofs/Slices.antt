-- Laws of List scan with timer records in five slices, done on a copy of their numbers. Assumes nothing.
use Rattle.std.specs.Prelude.{Err}
use Prim.Native.Nat.{ℕ, ◌≤◌}
use native.Mathlib.Omega.{arith}
use mathlib.Core.Path.{◌≡◌, refl, sym, ap, subst, ◌∙◌}
use mathlib.Core.Bool.{Bool, true, false}
use mathlib.Core.Option.{some}
use mathlib.Core.List.{List, ◌++◌, map}
use lib.ListN.{length, take, length-append}
use lib.Seq.{take_at, length-take-le}
use Rattle.questions.specs.Questions.{ask, first_no, vars_in_range, question1}
use Rattle.questions.specs.Refusals.{refusal_of}
use Rattle.questions.specs.declared.Refusal.{Refusal as RefusalCase}
use Rattle.questions.specs.declared.Refusal.TheVariants.{Variables, Timers}
use Rattle.table.specs.Questions.{question16}
use Rattle.table.specs.TimerRecords.{Columns, columns, one_length, column_timers, timer_columns, columns_after, timer_numbers, timers_in, number_timers}
use Rattle.timers.specs.Parts.{packs, Packable, Packed, Unpackable, Unpacked}
use Rattle.table.proofs.Laws.TimerRecords.{numbers_back, whole_timers}
use Rattle.timers.proofs.Laws.Numbers.{numbers_whole, five_whole}
use Rattle.timers.proofs.Laws.Columns.{one_length_lem, columns_back, timers_back, columns_after_lem, can_pack_lem, cannot_pack}
use Rattle.timers.proofs.Laws.Kept.{RecordsKept, columns_left}
use Rattle.rungs.specs.Records.{RungRecord}
use Rattle.list_definitions.specs.ListScan.{ListScanCall, ListScanned, scan_questions, call_list_scan, ListScanDone, ListScanNumbers, ListScanColumns}
use Rattle.list_definitions.proofs.Laws.Refusing.{scan_refuses}
use Rattle.list.proofs.Kept.{call_kept_lem}

-- room for the numbers of 32 records
pub packable : (c : Columns) → packs c ≡ true → (out : List ℕ) → 160 ≤ length out → Packable c out
packable c can out room = let h = can_pack_lem c can in let f = h.1 in record { one = h.0; few = h.1; room = omega arith }

-- slices that were packed into n numbers from a buffer's start
module _ (c : Columns) (can : packs c ≡ true) (n : ℕ) (buffer : List ℕ) (packed : Packed c n buffer) (room : length buffer ≡ 160) where
  pub inside : n ≤ length buffer
  inside = let k = packed.count in let few = (can_pack_lem c can).1 in omega arith

  pub inside_after : (ms rest : List ℕ) → length ms ≡ length (take n buffer) → n ≤ length (ms ++ rest)
  inside_after ms rest e = let l = length-take-le n buffer inside in rw (length-append ms rest) (omega arith)

-- slices of which the records stay
columns_same : (c : Columns) → columns_after c (column_timers c) ≡ c
unfolding columns_after
columns_same c = go (one_length c) refl
  where
    go : (b : Bool) → one_length c ≡ b → columns_after c (column_timers c) ≡ c
    go true q = columns_after_lem c (column_timers c) q ∙ columns_back c q
    go false q = rw q refl

module _ (vars : ℕ) (ws : List ℕ) (rs : List RungRecord) (t : List ℕ) (c : Columns) (tick w : ℕ) (times : List ℕ) where
  abbrev call : ListScanCall
  call = call_list_scan vars ws rs t (column_timers c) tick w

  slices_refused : (refusal : RefusalCase) → scan_questions vars ws rs t (column_timers c) w ≡ some (refusal_of refusal) → ListScanColumns call (Err refusal) t c c times times
  slices_refused refusal e =
      let d = scan_refuses vars ws rs t (column_timers c) tick w refusal times e in
      record { done = d; slices = sym (columns_same c) ∙ ap (columns_after c) d.same_timers }

  -- slices that cannot be packed
  module _ (no : packs c ≡ false) where
    first_variables : vars_in_range vars ≡ false → scan_questions vars ws rs t (column_timers c) w ≡ some (refusal_of Variables)
    unfolding scan_questions first_no question1 ask refusal_of
    first_variables e = rw e

    pub slices_variables : vars_in_range vars ≡ false → ListScanColumns call (Err Variables) t c c times times
    slices_variables e = slices_refused Variables (first_variables e)

    first_timers : vars_in_range vars ≡ true → scan_questions vars ws rs t (column_timers c) w ≡ some (refusal_of Timers)
    unfolding scan_questions first_no question1 question16 ask refusal_of
    first_timers e = rw (e, cannot_pack c no vars)

    pub slices_timers : vars_in_range vars ≡ true → ListScanColumns call (Err Timers) t c c times times
    slices_timers e = slices_refused Timers (first_timers e)

  -- slices that were packed into n numbers from a buffer's start
  module _ (can : packs c ≡ true) (n : ℕ) (buffer : List ℕ) (packed : Packed c n buffer) (room : length buffer ≡ 160) where
    same_records : number_timers (take n buffer) ≡ column_timers c
    same_records = rw packed.numbers (whole_timers (timer_numbers (column_timers c)) (numbers_whole (column_timers c)) ∙ numbers_back (column_timers c))

    -- List scan over them, which left the numbers ms
    module _ (r : ListScanned) (u ms after : List ℕ) (kept-length : length ms ≡ length (take n buffer))
        (done : ListScanNumbers (call_list_scan vars ws rs t (number_timers (take n buffer)) tick w) r u (take n buffer) ms times after) where
      long : length ms ≡ n
      long = kept-length ∙ length-take-le n buffer (inside c can n buffer packed room)

      on_columns : ListScanDone call r u (number_timers ms) times after
      on_columns = rw same_records at done.done

      left_records : timers_in ms ≡ call.timers
      left_records = sym (whole_timers ms (five_whole ms (length c.preset) (long ∙ packed.count))) ∙ on_columns.same_timers

      kept : RecordsKept (column_timers c) call.timers
      kept = call_kept_lem vars ws rs t (column_timers c) tick w

      pub unpackable : (rest : List ℕ) → Unpackable (take n (ms ++ rest)) c.start c.running c.done
      unpackable rest =
          let l = one_length_lem c (can_pack_lem c can).0 in
          let a = l.start in
          let b = l.running in
          let d = l.done in
          let k = packed.count in
          let e = long in
          rw (take_at ms rest n long) (record {
            count = omega arith;
            runnings = omega arith;
            dones = omega arith;
            flags = rw left_records (kept.bytes packed.flags);
          })

      pub unpacked : (rest start running dones : List ℕ) → Unpacked (take n (ms ++ rest)) start running dones
          → ListScanColumns call r u c (columns c.preset start c.variable running dones) times after
      unfolding timer_columns
      unpacked rest start running dones h =
          let o = (can_pack_lem c can).0 in
          let back = columns_back c o in
          let is : Unpacked ms start running dones = subst (λ (l : List ℕ). Unpacked l start running dones) (take_at ms rest n long) h in
          let e : columns c.preset start c.variable running dones ≡ columns_after c call.timers =
          columns_left c call.timers start running dones o (kept.same_presets ∙ ap (λ d. d.preset) back) (kept.same_variables ∙ ap (λ d. d.variable) back)
          (is.starts ∙ ap (map (λ x. x.start)) left_records) (is.runnings ∙ ap (map (λ x. x.running)) left_records) (is.dones ∙ ap (map (λ x. x.done)) left_records) in
          record {
            done = record {
              answer = on_columns.answer;
              same_table = on_columns.same_table;
              same_timers = ap column_timers (e ∙ columns_after_lem c call.timers o) ∙ timers_back call.timers;
              same_times = on_columns.same_times;
            };
            slices = e;
          }
