-- Laws of a label line. Assumes nothing.
use Prim.Native.Nat.{ℕ}
use native.Mathlib.Omega.{arith}
use mathlib.Core.Path.{◌≡◌, refl}
use mathlib.Core.Bool.{false}
use mathlib.Core.List.{List}
use borrow.Author.Tests.{eq-eqb, ne_eqb, lt-ltb}
use lib.ListN.{get_or}
use Rattle.std.specs.Prelude.{Option, Some, None, is_some}
use Rattle.text_grammar.specs.Reader.{followed, numeral_of}
use Rattle.text_grammar.specs.Numbers.{NumberRead, DigitRead, ByteRead}
use Rattle.text_grammar.specs.declared.Numeral.{Numeral}
use Rattle.reader_definitions.specs.Reader.{opens_label, label_from}
use Rattle.reader_lines.specs.Parts.{LabelParsed}

module _ (s : List ℕ) (at : ℕ) where
  pub no_label : ByteRead s at 76 None → false ≡ opens_label s at
  unfolding opens_label
  no_label b = rw (ne_eqb (get_or s at 0) 76 b) refl

  pub label_other : ByteRead s at 76 None → LabelParsed (label_from s at) s at None
  unfolding label_from
  label_other b = record { same = rw (ne_eqb (get_or s at 0) 76 b) refl; within = tt }

  module _ (m : ℕ) (b : ByteRead s at 76 (Some m)) where
    pub label_digit : (d : Option ℕ) → DigitRead s m d → is_some d ≡ opens_label s at
    unfolding opens_label
    label_digit (Some d) f = rw (eq-eqb (get_or s at 0) 76 b.1, ← b.0, ← f.same, lt-ltb d 10 f.within.0) refl
    label_digit None f = rw (eq-eqb (get_or s at 0) 76 b.1, ← b.0, ← f.same) refl

    label_is : label_from s at ≡ followed s 10 (followed s 58 (numeral_of s m))
    unfolding label_from
    label_is = rw (eq-eqb (get_or s at 0) 76 b.1, ← b.0) refl

    pub label_no_number : NumberRead s m None → LabelParsed (label_from s at) s at None
    unfolding followed
    label_no_number f = record { same = rw (label_is, ← f.same) refl; within = tt }

    module _ (v : Numeral) (f : NumberRead s m (Some v)) where
      pub label_no_colon : ByteRead s v.next 58 None → LabelParsed (label_from s at) s at None
      unfolding followed
      label_no_colon c = record { same = rw (label_is, ← f.same, ne_eqb (get_or s v.next 0) 58 c) refl; within = tt }

      module _ (n : ℕ) (c : ByteRead s v.next 58 (Some n)) where
        pub label_no_end : ByteRead s n 10 None → LabelParsed (label_from s at) s at None
        unfolding followed
        label_no_end d =
            record { same = rw (label_is, ← f.same, eq-eqb (get_or s v.next 0) 58 c.1, ← c.0, ne_eqb (get_or s n 0) 10 d) refl; within = tt }

        pub label_whole : (e : ℕ) → ByteRead s n 10 (Some e) → LabelParsed (label_from s at) s at (Some (record { label = v.value; next = e }))
        unfolding followed
        label_whole e d =
            let b0 = b.0 in
            let c0 = c.0 in
            let d0 = d.0 in
            let d2 = d.2 in
            let f0 = f.within.0 in
            record {
              same = rw (label_is, ← f.same, eq-eqb (get_or s v.next 0) 58 c.1, ← c.0, eq-eqb (get_or s n 0) 10 d.1, ← d.0) refl;
              within = (omega arith, omega arith, f.within.2);
            }
