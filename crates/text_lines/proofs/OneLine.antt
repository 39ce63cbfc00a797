-- Laws of a rung that is read by its front and rear, and of a line by its label and rung. Assumes nothing.
use mathlib.Core.Path.{◌≡◌, refl, sym, ap, ◌∙◌}
use mathlib.Core.List.{List, ◌++◌}
use Prim.Native.Nat.{ℕ, ◌+◌, ◌≤◌}
use native.Mathlib.Omega.{arith}
use lib.ListN.{length, length-append}
use lib.Seq.{sets, length-sets}
use Rattle.questions.specs.Bytes.{byte}
use Rattle.ladder_definitions.specs.Tree.{Front, Rear, Rung}
use Rattle.ladder_definitions.specs.Kept.{front_words, rear_words, rung_words}
use Rattle.text_grammar.specs.Reader.{Parse, read, stuck, map_p, bind, followed, numeral_of, front_of, rear_of, rung, line_of}
use Rattle.text_grammar.specs.Numbers.{NumberRead}
use Rattle.text_grammar.specs.declared.Numeral.{Numeral}
use Rattle.std.specs.Prelude.{Some, None, Ok, Err}
use Rattle.text_fronts.specs.Parts.{PartRead, ByteRead}
use Rattle.text_lines.specs.Parts.{rung_of, LineRead}
use Rattle.text_fronts.specs.declared.part.Parsed.{Parsed}
use Rattle.text_fronts.specs.declared.part.Stuck.{Stuck}
use Rattle.text_grammar.proofs.Laws.Parses.{same_tree, not_both, bind_stuck, bind_read}
use Rattle.text_fronts.proofs.Parts.{followed_read, followed_short, followed_stuck, read_of, stuck_of, part_stuck, part_read}
use Rattle.questions.proofs.Laws.Stores.{sets_append}

-- ---- a rung

rung_of_lem : ℕ → List ℕ → ℕ → Front → Parse Rung
rung_of_lem label s n f = map_p (rung label f) (followed s (byte "\n") (rear_of 15 s n))

module _ (label : ℕ) (s : List ℕ) (at : ℕ) where
  rung_stuck : (x : ℕ) → followed s (byte ">") (front_of 15 s at) ≡ stuck x → rung_of label s at ≡ stuck x
  unfolding rung_of rung_of_lem
  rung_stuck x e = bind_stuck (followed s (byte ">") (front_of 15 s at)) (rung_of_lem label s) x e

  rung_from_lem : (n : ℕ) (f : Front) → followed s (byte ">") (front_of 15 s at) ≡ read n f → rung_of label s at ≡ rung_of_lem label s n f
  unfolding rung_of rung_of_lem
  rung_from_lem n f e = bind_read (followed s (byte ">") (front_of 15 s at)) (rung_of_lem label s) n f e

  rung_of_stuck : (n x : ℕ) (f : Front) → followed s (byte "\n") (rear_of 15 s n) ≡ stuck x → rung_of_lem label s n f ≡ stuck x
  unfolding rung_of_lem map_p
  rung_of_stuck n x f e = rw e refl

  rung_of_read : (n m : ℕ) (f : Front) (r : Rear) → followed s (byte "\n") (rear_of 15 s n) ≡ read m r → rung_of_lem label s n f ≡ read m (rung label f r)
  unfolding rung_of_lem map_p
  rung_of_read n m f r e = rw e refl

rung_words_lem : (l : ℕ) (f : Front) (r : Rear) → rung_words (rung l f r) ≡ front_words f ++ rear_words r
unfolding rung_words
rung_words_lem l f r = refl

module _ (s : List ℕ) (at : ℕ) (e y : List ℕ) where
  pub front_bad : (x : Stuck) → PartRead front_words (front_of 15 s at) s at (Err x) 0 e y → (z : List ℕ) (label : ℕ)
      → PartRead rung_words (rung_of label s at) s at (Err x) 0 e z
  front_bad x f z label =
      part_stuck rung_words (rung_of label s at) s at x 0 e z
      (rung_stuck label s at x.place (followed_stuck s (byte ">") (front_of 15 s at) x.place (stuck_of front_words (front_of 15 s at) x f.same)))

  module _ (v : Parsed) (f : PartRead front_words (front_of 15 s at) s at (Ok v) 0 e y) where
    pub no_arrow : (x : Stuck) → ByteRead s v.next 62 (Err x) → (z : List ℕ) (label : ℕ) → PartRead rung_words (rung_of label s at) s at (Err x) 0 e z
    no_arrow x b z label =
        let t = read_of front_words (front_of 15 s at) v f.same in
        part_stuck rung_words (rung_of label s at) s at x 0 e z
        (rung_stuck label s at x.place (followed_short s (byte ">") (front_of 15 s at) v.next x t.0 t.1 b))

    module _ (from : ℕ) (a : ByteRead s v.next 62 (Ok from)) (z : List ℕ) where
      front_read : (label : ℕ) → (t : Front) × (rung_of label s at ≡ rung_of_lem label s from t) × (front_of 15 s at ≡ read v.next t) × (length (front_words t) ≡ v.count)
      front_read label =
          let t = read_of front_words (front_of 15 s at) v f.same in
          (t.0, rung_from_lem label s at from t.0 (followed_read s (byte ">") (front_of 15 s at) v.next from t.0 t.1 a), t.1, t.2)

      pub rear_bad : (x : Stuck) → PartRead rear_words (rear_of 15 s from) s from (Err x) v.count y z → (label : ℕ)
          → PartRead rung_words (rung_of label s at) s at (Err x) 0 e z
      rear_bad x g label =
          let t = front_read label in
          part_stuck rung_words (rung_of label s at) s at x 0 e z
          (t.1 ∙ rung_of_stuck label s at from x.place t.0
          (followed_stuck s (byte "\n") (rear_of 15 s from) x.place (stuck_of rear_words (rear_of 15 s from) x g.same)))

      module _ (u : Parsed) (g : PartRead rear_words (rear_of 15 s from) s from (Ok u) v.count y z) where
        pub no_end : (x : Stuck) → ByteRead s u.next 10 (Err x) → (label : ℕ) → PartRead rung_words (rung_of label s at) s at (Err x) 0 e z
        no_end x b label =
            let t = front_read label in
            let r = read_of rear_words (rear_of 15 s from) u g.same in
            part_stuck rung_words (rung_of label s at) s at x 0 e z
            (t.1 ∙ rung_of_stuck label s at from x.place t.0 (followed_short s (byte "\n") (rear_of 15 s from) u.next x r.0 r.1 b))

        module _ (n : ℕ) (b : ByteRead s u.next 10 (Ok n)) (label : ℕ) where
          both : (t : Front) → front_of 15 s at ≡ read v.next t → length (front_words t) ≡ v.count → (r : Rear) → rear_of 15 s from ≡ read u.next r
              → length (rear_words r) ≡ u.count → 0 + length (rung_words (rung label t r)) ≤ length e → z ≡ sets e 0 (rung_words (rung label t r))
          both t et lt r er lr room =
              let fs = front_words t in
              let rs = rear_words r in
              let long : length (rung_words (rung label t r)) ≡ length fs + length rs = ap length (rung_words_lem label t r) ∙ length-append fs rs in
              let a : y ≡ sets e 0 fs = f.out v.next t et (omega arith) in
              let b : z ≡ sets y v.count rs = g.out u.next r er (omega (arith, ap length a, length-sets e 0 fs)) in
              let c : v.count ≡ 0 + length fs = omega arith in
              b ∙ ap (λ (l : List ℕ). sets l v.count rs) a ∙ ap (λ (m : ℕ). sets (sets e 0 fs) m rs) c ∙ sym (sets_append e 0 fs rs) ∙ ap (sets e 0) (sym (rung_words_lem label t r))

          pub whole_rung : PartRead rung_words (rung_of label s at) s at (Ok (record { next = n; count = v.count + u.count })) 0 e z
          whole_rung =
              let t = front_read label in
              let r = read_of rear_words (rear_of 15 s from) u g.same in
              let long : length (rung_words (rung label t.0 r.0)) ≡ v.count + u.count =
              ap length (rung_words_lem label t.0 r.0) ∙ length-append (front_words t.0) (rear_words r.0) ∙ rw (t.3, r.2) refl in
              part_read rung_words (rung_of label s at) s at (record { next = n; count = v.count + u.count }) (rung label t.0 r.0) 0 e z
              (t.1 ∙ rung_of_read label s at from n t.0 r.0 (followed_read s (byte "\n") (rear_of 15 s from) u.next n r.0 r.1 b))
              long (omega (arith, f.within.0, g.within.0, a.0, b.0)) (omega (arith, b.0, b.2)) (omega (arith, f.within.2, g.within.2, a.0, b.0))
              (both t.0 t.2 t.3 r.0 r.1 r.2)

-- the label of a rung is the one before it
label_mapped : (label : ℕ) (f : Front) (p : Parse Rear) (n : ℕ) (g : Rung) → map_p (rung label f) p ≡ read n g → g.label ≡ label
unfolding map_p
label_mapped label f (read m r) n g e = ap (λ (h : Rung). h.label) (sym (same_tree e))
label_mapped label f (stuck x) n g e = absurd (not_both (stuck x) x n g refl e)

label_bound : (label : ℕ) (s : List ℕ) (p : Parse Front) (n : ℕ) (g : Rung) → bind p (rung_of_lem label s) ≡ read n g → g.label ≡ label
unfolding bind rung_of_lem
label_bound label s (read m f) n g e = label_mapped label f (followed s (byte "\n") (rear_of 15 s m)) n g e
label_bound label s (stuck x) n g e = absurd (not_both (stuck x) x n g refl e)

label_of : (label : ℕ) (s : List ℕ) (at n : ℕ) (g : Rung) → rung_of label s at ≡ read n g → g.label ≡ label
unfolding rung_of rung_of_lem
label_of label s at n g e = label_bound label s (followed s (byte ">") (front_of 15 s at)) n g e

-- ---- a line

line_parts : (s : List ℕ) (at : ℕ) → line_of s at ≡ bind (followed s (byte ":") (numeral_of s at)) (λ n l. rung_of l s n)
unfolding line_of rung_of
line_parts s at = refl

line_stuck_at : (s : List ℕ) (at x : ℕ) → followed s (byte ":") (numeral_of s at) ≡ stuck x → line_of s at ≡ stuck x
line_stuck_at s at x e = line_parts s at ∙ bind_stuck (followed s (byte ":") (numeral_of s at)) (λ n l. rung_of l s n) x e

line_from_lem : (s : List ℕ) (at n l : ℕ) → followed s (byte ":") (numeral_of s at) ≡ read n l → line_of s at ≡ rung_of l s n
line_from_lem s at n l e = line_parts s at ∙ bind_read (followed s (byte ":") (numeral_of s at)) (λ n l. rung_of l s n) n l e

line_bad : (p : Parse Rung) (s : List ℕ) (at : ℕ) (x : Stuck) (e y : List ℕ) → p ≡ stuck x.place → LineRead p s at (Err x) e y
line_bad p s at x e y q = record { same = rw q refl; within = tt; out = λ n g b h. absurd (not_both p x.place n g q b) }

module _ (s : List ℕ) (at : ℕ) (e y : List ℕ) where
  pub no_number : NumberRead s at None → LineRead (line_of s at) s at (Err (record { place = at })) e y
  no_number f =
      line_bad (line_of s at) s at (record { place = at }) e y
      (line_stuck_at s at at (followed_stuck s (byte ":") (numeral_of s at) at (sym f.same)))

  module _ (v : Numeral) (f : NumberRead s at (Some v)) where
    pub no_colon : (x : Stuck) → ByteRead s v.next 58 (Err x) → LineRead (line_of s at) s at (Err x) e y
    no_colon x b =
        line_bad (line_of s at) s at x e y
        (line_stuck_at s at x.place (followed_short s (byte ":") (numeral_of s at) v.next x v.value (sym f.same) b))

    module _ (from : ℕ) (a : ByteRead s v.next 58 (Ok from)) where
      after_colon : line_of s at ≡ rung_of v.value s from
      after_colon = line_from_lem s at from v.value (followed_read s (byte ":") (numeral_of s at) v.next from v.value (sym f.same) a)

      pub rung_bad : (x : Stuck) → ((label : ℕ) → PartRead rung_words (rung_of label s from) s from (Err x) 0 e y) → LineRead (line_of s at) s at (Err x) e y
      rung_bad x g = line_bad (line_of s at) s at x e y (after_colon ∙ stuck_of rung_words (rung_of v.value s from) x (g v.value).same)

      pub whole_line : (u : Parsed) → ((label : ℕ) → PartRead rung_words (rung_of label s from) s from (Ok u) 0 e y)
          → LineRead (line_of s at) s at (Ok (record { label = v.value; next = u.next; count = u.count })) e y
      whole_line u h =
          let g = h v.value in
          let t = read_of rung_words (rung_of v.value s from) u g.same in
          let l : t.0.label ≡ v.value = label_of v.value s from u.next t.0 t.1 in
          let p : line_of s at ≡ read u.next t.0 = after_colon ∙ t.1 in
          record {
            same = rw (p, l, t.2) refl;
            within = (omega (arith, f.within.0, g.within.0, a.0), g.within.1, omega (arith, f.within.0, g.within.2, a.0));
            out = λ i g' k room. g.out i g' (sym after_colon ∙ k) (omega arith);
          }
