-- Laws of the loops between five slices and numbers. Assumes nothing.
use Rattle.std.proofs.Common.{◌≡◌, ℕ, zero, suc, ◌+◌, ◌*◌, ◌<◌, ◌≤◌, T, List, [], ◌∷◌, ◌++◌, map, length, get_or, take, drop, set, sym, refl, ap, ◌∙◌, arith, length-set, drop_of_length-le, get_or-drop, drop-cons, get_or-set_other, get_or-set_same, append_assoc, take_at, ext_get_or}
use native.Mathlib.Decide.{ℕ_discrete, dec_lt}
use borrow.Author.Count.{below_more}
use mathlib.Core.Option.{some}
use mathlib.Core.List.{flat_map}
use lib.ListN.{get_or-eq_default, get_elem?, length-map}
use lib.Seq.{sets, sets-eq}
use Rattle.std.proofs.lemmas.List.{drop-drop}
use Rattle.questions.specs.Tests.{all}
use Rattle.questions.proofs.Laws.Stores.{sets_append}
use Rattle.questions.proofs.Laws.Tests.{none_some, all_head, all_tail}
use Rattle.table.specs.Timer.{Timer}
use Rattle.table.specs.TimerRecords.{Columns, joined, numbers_of, timer_numbers, timers_in}
use Rattle.timers.specs.Parts.{timer_at, flag_bytes, Packable, Packed, Unpackable, Unpacked}
use Rattle.timers.proofs.Laws.Places.{record_there}
use Rattle.timers.proofs.Laws.Numbers.{numbers_length, five_length}
use Rattle.timers.proofs.Laws.Columns.{Lengths, one_length_lem, joined_length, column_timers_lem}
use Rattle.timers.proofs.Laws.Flags.{running_byte, done_byte, joined_bytes}

-- ---- one record's numbers

-- five numbers that were copied over what stood there
pub five_put : (ns five ys : List ℕ) (at k : ℕ) → at + 5 ≤ length ns → length five ≡ 5 → k ≡ 5 → ys ≡ five → take at ns ++ (ys ++ drop k (drop at ns)) ≡ sets ns at five
five_put ns five ys at k h l e f =
    let whole = rw append_assoc at (rw l at (sets-eq five ns at (omega arith))) in
    rw (e, f, drop-drop) (sym whole)

-- ---- all records' numbers

-- the records from place i on
abbrev from : Columns → ℕ → List Timer
from c i = joined (drop i c.preset) (drop i c.start) (drop i c.variable) (drop i c.running) (drop i c.done)

abbrev timer_of : Columns → ℕ → Timer
timer_of c i = record { preset = get_or c.preset i 0; start = get_or c.start i 0; variable = get_or c.variable i 0; running = get_or c.running i 0; done = get_or c.done i 0 }

first : (l : List ℕ) (i : ℕ) → get_or (drop i l) 0 0 ≡ get_or l i 0
first l i = let z : i + 0 ≡ i = omega arith in get_or-drop i l 0 0 ∙ rw z refl

same_join : (p : ℕ) (ps : List ℕ) {s₁ s₂ v₁ v₂ r₁ r₂ d₁ d₂ : ℕ} {ss₁ ss₂ vs₁ vs₂ rs₁ rs₂ ds₁ ds₂ : List ℕ}
    → s₁ ≡ s₂ → v₁ ≡ v₂ → r₁ ≡ r₂ → d₁ ≡ d₂ → ss₁ ≡ ss₂ → vs₁ ≡ vs₂ → rs₁ ≡ rs₂ → ds₁ ≡ ds₂
    → ◌≡◌ {A = List Timer} (record { preset = p; start = s₁; variable = v₁; running = r₁; done = d₁ } ∷ joined ps ss₁ vs₁ rs₁ ds₁)
    (record { preset = p; start = s₂; variable = v₂; running = r₂; done = d₂ } ∷ joined ps ss₂ vs₂ rs₂ ds₂)
same_join p ps a b c d e f g h i = record { preset = p; start = a i; variable = b i; running = c i; done = d i } ∷ joined ps (e i) (f i) (g i) (h i)

from_more : (c : Columns) (i : ℕ) → i < length c.preset → from c i ≡ timer_of c i ∷ from c (i + 1)
unfolding joined
from_more c i h =
    let z : suc i ≡ i + 1 = omega arith in
    let head : drop i c.preset ≡ get_or c.preset i 0 ∷ drop (i + 1) c.preset = drop-cons c.preset i 0 h ∙ ap (λ n. get_or c.preset i 0 ∷ drop n c.preset) z in
    rw head
    (same_join (get_or c.preset i 0) (drop (i + 1) c.preset) (first c.start i) (first c.variable i) (first c.running i) (first c.done i)
    (drop-drop 1 i c.start) (drop-drop 1 i c.variable) (drop-drop 1 i c.running) (drop-drop 1 i c.done))

from_end : (c : Columns) (i : ℕ) → length c.preset ≤ i → from c i ≡ []
unfolding joined
from_end c i h = rw (drop_of_length-le c.preset {i = i} h) refl

-- what is left to write over what is written is the whole
pub record Packing (c : Columns) (e x : List ℕ) (i : ℕ) : Type 0 where
  pub same : sets x (i * 5) (timer_numbers (from c i)) ≡ sets e 0 (timer_numbers (from c 0))
  pub long : length x ≡ length e
  pub within : i ≤ length c.preset
  pub lengths : Lengths c
  pub bytes : (k : ℕ) → k < i → (get_or c.running k 0 < 256) × (get_or c.done k 0 < 256)

-- past the slices' end nothing stands
in_bytes : (xs : List ℕ) → ((k : ℕ) → k < length xs → get_or xs k 0 < 256) → (k : ℕ) → get_or xs k 0 < 256
in_bytes xs h k = go (dec_lt k (length xs))
  where
    go : Dec (k < length xs) → get_or xs k 0 < 256
    go (yes l) = h k l
    go (no l) = rw (get_or-eq_default xs 0 {n = k} (omega arith)) (omega arith)

module _ (c : Columns) (e : List ℕ) where
  pub packing_start : Packable c e → Packing c e e 0
  packing_start p = record { same = refl; long = refl; within = omega arith; lengths = one_length_lem c p.one; bytes = λ k l. absurd (omega arith) }

  module _ (x : List ℕ) (i : ℕ) (h : Packing c e x i) where
    pub packing_more : (y : List ℕ) → i < length c.preset → y ≡ sets x (i * 5) (numbers_of (timer_of c i)) → length y ≡ length x
        → (get_or c.running i 0 < 256) × (get_or c.done i 0 < 256) → Packing c e y (i + 1)
    unfolding timer_numbers flat_map numbers_of
    packing_more y l q k b =
        let z : i * 5 + 5 ≡ (i + 1) * 5 = omega arith in
        let one = ap (λ ts. sets x (i * 5) (timer_numbers ts)) (from_more c i l) in
        let two = sets_append x (i * 5) (numbers_of (timer_of c i)) (timer_numbers (from c (i + 1))) in
        record {
          same =
              ap (λ n. sets y n (timer_numbers (from c (i + 1)))) (sym z) ∙ ap (λ a. sets a (i * 5 + 5) (timer_numbers (from c (i + 1)))) q
              ∙ sym two ∙ sym one ∙ h.same;
          long = k ∙ h.long;
          within = omega arith;
          lengths = h.lengths;
          bytes = below_more _ i h.bytes b;
        }

    pub packing_end : length c.preset ≤ i → Packable c e → Packed c (length c.preset * 5) x
    unfolding timer_numbers flat_map
    packing_end l p =
        let w = h.within in
        let runnings = h.lengths.running in
        let dones = h.lengths.done in
        let f = in_bytes c.running (λ k m. (h.bytes k (omega arith)).0) in
        let g = in_bytes c.done (λ k m. (h.bytes k (omega arith)).1) in
        let n = timer_numbers (from c 0) in
        let is = column_timers_lem c p.one in
        let many = numbers_length (from c 0) in
        let count = joined_length c.preset c.start c.variable c.running c.done in
        let room = p.room in
        let size : length n ≡ length c.preset * 5 = omega arith in
        let put : sets e 0 n ≡ n ++ drop (0 + length n) e = sets-eq n e 0 (omega arith) in
        let done : x ≡ sets e 0 n = sym (ap (λ ts. sets x (i * 5) (timer_numbers ts)) (from_end c i l)) ∙ h.same in
        record {
          count = omega arith;
          numbers = ap (take (length c.preset * 5)) (done ∙ put) ∙ take_at n (drop (0 + length n) e) (length c.preset * 5) size ∙ ap timer_numbers (sym is);
          flags = rw is (joined_bytes c.preset c.start c.variable c.running c.done f g);
        }

-- ---- and back

-- the first i entries of x are t's
pub record Filled (e t x : List ℕ) (i : ℕ) : Type 0 where
  pub same : (k : ℕ) → k < i → get_or x k 0 ≡ get_or t k 0
  pub long : length x ≡ length e
  pub size : length e ≡ length t

filled_start : (e t : List ℕ) → length e ≡ length t → Filled e t e 0
filled_start e t h = record { same = λ k l. absurd (omega arith); long = refl; size = h }

filled_more : (e t x : List ℕ) (i v : ℕ) → Filled e t x i → i < length x → v ≡ get_or t i 0 → Filled e t (set x i v) (i + 1)
filled_more e t x i v h l q = record { same = go; long = length-set x i v ∙ h.long; size = h.size }
  where
    go : (k : ℕ) → k < i + 1 → get_or (set x i v) k 0 ≡ get_or t k 0
    go k m = elim (ℕ_discrete k i) [
      | yes p ↦ rw (p, get_or-set_same x i v 0 l) q
      | no p ↦ get_or-set_other x i k v 0 p ∙ h.same k (omega arith)
    ]

filled_end : (e t x : List ℕ) (i : ℕ) → Filled e t x i → length x ≤ i → x ≡ t
filled_end e t x i h l = ext_get_or 0 x t (h.long ∙ h.size) (λ k m. h.same k (omega arith))

got_map : (f : Timer → ℕ) (ts : List Timer) (i : ℕ) (t : Timer) → get_elem? ts i ≡ some t → f t ≡ get_or (map f ts) i 0
got_map f [] i t e = absurd (none_some e)
got_map f (x ∷ ts) zero t e = let z : x ≡ t = cc in ap f (sym z)
got_map f (x ∷ ts) (suc i) t e = got_map f ts i t e

got_bytes : (ts : List Timer) (i : ℕ) (t : Timer) → T (all flag_bytes ts) → get_elem? ts i ≡ some t → T (flag_bytes t)
got_bytes [] i t h e = absurd (none_some e)
got_bytes (x ∷ ts) zero t h e = let z : x ≡ t = cc in rw z at (all_head flag_bytes x ts h)
got_bytes (x ∷ ts) (suc i) t h e = got_bytes ts i t (all_tail flag_bytes x ts h) e

pub record Unpacking (ns e f g x y z : List ℕ) (i : ℕ) : Type 0 where
  pub starts : Filled e (map (λ t. t.start) (timers_in ns)) x i
  pub runnings : Filled f (map (λ t. t.running) (timers_in ns)) y i
  pub dones : Filled g (map (λ t. t.done) (timers_in ns)) z i

module _ (ns e f g : List ℕ) (p : Unpackable ns e f g) where
  pub unpacking_start : Unpacking ns e f g e f g 0
  unpacking_start =
      let n = five_length ns (length e) p.count in
      let r = p.runnings in
      let d = p.dones in
      record {
        starts = filled_start e _ (sym (length-map (timers_in ns) (λ t. t.start) ∙ n));
        runnings = filled_start f _ (r ∙ sym (length-map (timers_in ns) (λ t. t.running) ∙ n));
        dones = filled_start g _ (d ∙ sym (length-map (timers_in ns) (λ t. t.done) ∙ n));
      }

  module _ (x y z : List ℕ) (i : ℕ) (h : Unpacking ns e f g x y z i) (l : i < length e) where
    pub unpacking_room : i * 5 + 5 ≤ length ns
    unpacking_room = let a = h.starts.long in let b = p.count in omega arith

    there : get_elem? (timers_in ns) i ≡ some (timer_at ns (i * 5))
    there = record_there ns i unpacking_room

    pub running_fits : get_or ns (i * 5 + 3) 0 < 256
    running_fits = running_byte (timer_at ns (i * 5)) (got_bytes (timers_in ns) i _ p.flags there)

    pub done_fits : get_or ns (i * 5 + 4) 0 < 256
    done_fits = done_byte (timer_at ns (i * 5)) (got_bytes (timers_in ns) i _ p.flags there)

    pub unpacking_more : Unpacking ns e f g (set x i (get_or ns (i * 5 + 1) 0)) (set y i (get_or ns (i * 5 + 3) 0)) (set z i (get_or ns (i * 5 + 4) 0)) (i + 1)
    unpacking_more =
        let a = h.starts.long in
        let b = h.runnings.long in
        let c = h.dones.long in
        let r = p.runnings in
        let d = p.dones in
        record {
          starts = filled_more e _ x i _ h.starts (omega arith) (got_map (λ t. t.start) (timers_in ns) i _ there);
          runnings = filled_more f _ y i _ h.runnings (omega arith) (got_map (λ t. t.running) (timers_in ns) i _ there);
          dones = filled_more g _ z i _ h.dones (omega arith) (got_map (λ t. t.done) (timers_in ns) i _ there);
        }

  pub unpacking_end : (x y z : List ℕ) (i : ℕ) → Unpacking ns e f g x y z i → length e ≤ i → Unpacked ns x y z
  unpacking_end x y z i h l =
      let a = h.starts.long in
      let b = h.runnings.long in
      let c = h.dones.long in
      let r = p.runnings in
      let d = p.dones in
      record {
        starts = filled_end e _ x i h.starts (omega arith);
        runnings = filled_end f _ y i h.runnings (omega arith);
        dones = filled_end g _ z i h.dones (omega arith);
      }
