-- Laws of marks and names: what words mark, which variables have no mark, and their names put one after the other. Assumes nothing.
use Prim.Native.Nat.{ℕ, suc, ◌+◌, ◌*◌, ◌≤◌, ◌<◌}
use native.Mathlib.Numerals.{add-one}
use native.Mathlib.Omega.{arith}
use native.Mathlib.Decide.{ℕ_discrete}
use mathlib.Core.Path.{◌≡◌, refl, sym, ap, ◌∙◌}
use mathlib.Core.Bool.{Bool, true, false, cond, ◌||◌}
use mathlib.Core.List.{List, [], ◌∷◌, ◌++◌, flat_map, append_assoc}
use borrow.Author.Tests.{eq-eqb, ne_eqb}
use lib.Dec.{eqb}
use lib.ListN.{length, get_or, set, take, drop, replicate, get_or-replicate, length-append, length-set, length-replicate, drop_of_length-le}
use lib.Seq.{drop-cons, get_or-set_same, get_or-set_other, get_or-take, set_out, length-take-le}
use Rattle.questions.specs.Bytes.{bytes, decimal}
use Rattle.printing.specs.Put.{Put}
use Rattle.printing.proofs.Laws.Puts.{put_none, put_then, Left, all_left, left_none, left_more, decimal_long}
use Rattle.rungs.specs.Words.{number_of, operand_of}
use Rattle.ladder_definitions.specs.Kept.{KindSort, contact_sort, joined_sort, output_sort, rear_and_sort, rear_or_sort, no_sort, kind_sort}
use Rattle.noninterference.specs.Contacts.{is_contact, word_contact, word_contacts, among, left_out}
use Rattle.noninterference.proofs.Laws.Words.{contact_word, other_word}
use Rattle.program_definitions.proofs.Laws.Bounds.{unread_short}
use Rattle.program_definitions.specs.Scanout.{variable_names, unread_line}
use Rattle.program_scan_unread.specs.Marks.{marked, unmarked}

-- ---- contacts by their kind

pub contact_told : (k : ℕ) → kind_sort k ≡ contact_sort → true ≡ is_contact k
unfolding is_contact
contact_told k e = rw (e, is_contact) refl

pub other_told : (k : ℕ) → (kind_sort k ≡ contact_sort → ⊥) → false ≡ is_contact k
unfolding is_contact
other_told k h = go (kind_sort k) refl
  where
    go : (x : KindSort) → kind_sort k ≡ x → false ≡ is_contact k
    go contact_sort e = absurd (h e)
    go joined_sort e = rw (e, is_contact) refl
    go output_sort e = rw (e, is_contact) refl
    go rear_and_sort e = rw (e, is_contact) refl
    go rear_or_sort e = rw (e, is_contact) refl
    go no_sort e = rw (e, is_contact) refl

-- ---- marking

marked_append : (us vs marks : List ℕ) → marked (us ++ vs) marks ≡ marked vs (marked us marks)
unfolding marked
marked_append [] vs marks = refl
marked_append (u ∷ us) vs marks = marked_append us vs (set marks u 1)

pub marked_long : (vs marks : List ℕ) → length (marked vs marks) ≡ length marks
unfolding marked
marked_long [] marks = refl
marked_long (v ∷ vs) marks = marked_long vs (set marks v 1) ∙ length-set marks v 1

-- a word that is a contact's marks its variable, if there is room; another marks none
module _ (w : ℕ) (marks : List ℕ) where
  pub word_marked : is_contact (number_of w) ≡ true → set marks (operand_of w) 1 ≡ marked (word_contact w) marks
  unfolding marked
  word_marked e = rw (contact_word w e) refl

  pub word_out : is_contact (number_of w) ≡ true → length marks ≤ operand_of w → marks ≡ marked (word_contact w) marks
  word_out e h = sym (set_out marks (operand_of w) 1 h) ∙ word_marked e

  pub word_other : is_contact (number_of w) ≡ false → marks ≡ marked (word_contact w) marks
  unfolding marked
  word_other e = rw (other_word w e) refl

-- the words below `i` are passed
pub record Marking (words marks₀ marks : List ℕ) (i : ℕ) : Type 0 where
  pub left : marked (word_contacts words) marks₀ ≡ marked (word_contacts (drop i words)) marks
  pub long : length marks ≡ length marks₀

pub marking_start : (words marks₀ : List ℕ) → Marking words marks₀ marks₀ 0
marking_start words marks₀ = record { left = refl; long = refl }

module _ {words marks₀ marks : List ℕ} {i : ℕ} (h : Marking words marks₀ marks i) where
  pub marking_end : length words ≤ i → marks ≡ marked (word_contacts words) marks₀
  unfolding word_contacts marked flat_map
  marking_end k = sym (h.left ∙ rw (drop_of_length-le words k) refl)

  next_word : i < length words → word_contacts (drop i words) ≡ word_contact (get_or words i 0) ++ word_contacts (drop (suc i) words)
  unfolding word_contacts flat_map
  next_word k = rw (drop-cons words i 0 k) refl

  pub marking_more : (after : List ℕ) → i < length words → after ≡ marked (word_contact (get_or words i 0)) marks → Marking words marks₀ after (i + 1)
  marking_more after k e = record {
    left = h.left ∙ ap (λ vs. marked vs marks) (next_word k) ∙ marked_append (word_contact (get_or words i 0)) (word_contacts (drop (suc i) words)) marks
        ∙ rw (← e, add-one) refl;
    long = rw e (marked_long (word_contact (get_or words i 0)) marks ∙ h.long);
  }

-- ---- which have a mark

or_one : (b c : Bool) (x : ℕ) → cond c 1 (cond b 1 x) ≡ cond (b || c) 1 x
or_one true true x = refl
or_one true false x = refl
or_one false c x = refl

one_set : (marks : List ℕ) (u v : ℕ) → v < length marks → get_or (set marks u 1) v 0 ≡ cond (eqb u v) 1 (get_or marks v 0)
one_set marks u v h = go (ℕ_discrete v u)
  where
    go : Dec (v ≡ u) → get_or (set marks u 1) v 0 ≡ cond (eqb u v) 1 (get_or marks v 0)
    go (yes e) = rw (eq-eqb u v (sym e), ← e, get_or-set_same marks v 1 0 h) refl
    go (no n) = rw (ne_eqb u v (λ e. n (sym e)), get_or-set_other marks u v 1 0 n) refl

marked_at : (vs marks : List ℕ) (v : ℕ) → v < length marks → get_or (marked vs marks) v 0 ≡ cond (among v vs) 1 (get_or marks v 0)
unfolding marked among
marked_at [] marks v h = refl
marked_at (u ∷ us) marks v h =
    marked_at us (set marks u 1) v (rw (length-set marks u 1) h) ∙ ap (λ x. cond (among v us) 1 x) (one_set marks u v h) ∙ or_one (eqb u v) (among v us) (get_or marks v 0)

unmarked_left : (read ms : List ℕ) (v : ℕ) → ((i : ℕ) → i < length ms → get_or ms i 0 ≡ cond (among (v + i) read) 1 0) → unmarked v ms ≡ left_out read v (length ms)
unfolding unmarked left_out
unmarked_left read [] v h = refl
unmarked_left read (m ∷ ms) v h =
    let first : m ≡ cond (among (v + 0) read) 1 0 = h 0 (omega arith) in
    go (among v read) m (rw (add_none v) at first) (unmarked_left read ms (suc v) (λ i k. h (suc i) (omega arith) ∙ rw (add_next v i) refl))
  where
    add_none : (v : ℕ) → v + 0 ≡ v
    add_none v = omega arith

    add_next : (v i : ℕ) → v + suc i ≡ suc v + i
    add_next v i = omega arith

    go : (b : Bool) (m : ℕ) → m ≡ cond b 1 0 → unmarked (suc v) ms ≡ left_out read (suc v) (length ms)
        → elim (eqb m 0) as (λ _. List ℕ) [ true ↦ v ∷ [] | false ↦ [] ] ++ unmarked (suc v) ms ≡ elim b as (λ _. List ℕ) [ true ↦ [] | false ↦ v ∷ [] ] ++ left_out read (suc v) (length ms)
    go true m e ih = rw (e, ih) refl
    go false m e ih = rw (e, ih) refl

-- the first of as many zeros, marked at some variables
pub unmarked_zeros : (vs : List ℕ) (many vars : ℕ) → vars ≤ many → unmarked 0 (take vars (marked vs (replicate many 0))) ≡ left_out vs 0 vars
unmarked_zeros vs many vars h =
    let all = marked vs (replicate many 0) in
    let long : length all ≡ many = marked_long vs (replicate many 0) ∙ length-replicate {A = ℕ} many 0 in
    let some : length (take vars all) ≡ vars = length-take-le vars all (omega arith) in
    unmarked_left vs (take vars all) 0
    (λ i k. get_or-take vars all i 0 (omega arith) ∙ marked_at vs (replicate many 0) i (rw (length-replicate {A = ℕ} many 0) (omega arith))
    ∙ ap (λ x. cond (among i vs) 1 x) (get_or-replicate {A = ℕ} many i 0 0 (omega arith)) ∙ rw (none_add i) refl)
    ∙ ap (λ n. left_out vs 0 n) some
  where
    none_add : (i : ℕ) → 0 + i ≡ i
    none_add i = omega arith

-- ---- names

-- the variables below `i` are passed
pub record Naming (from : ℕ) (ms l x : List ℕ) (m i : ℕ) : Type 0 where
  pub left : Left l from (variable_names (unmarked 0 ms)) x m (variable_names (unmarked i (drop i ms)))
  pub within : i ≤ length ms
  pub room : m ≤ from + 7 * i

pub naming_start : (from : ℕ) (ms l : List ℕ) → Naming from ms l l from 0
naming_start from ms l = record { left = all_left l from (variable_names (unmarked 0 ms)); within = omega arith; room = omega arith }

module _ {from : ℕ} {ms l x : List ℕ} {m i : ℕ} (h : Naming from ms l x m i) where
  pub naming_end : length ms ≤ i → Put l from (variable_names (unmarked 0 ms)) m x
  unfolding unmarked variable_names
  naming_end g = left_none h.left (rw (drop_of_length-le ms g, unmarked))

  module _ (k : i < length ms) where
    next_name : variable_names (unmarked i (drop i ms)) ≡ variable_names (elim (eqb (get_or ms i 0) 0) [ true ↦ i ∷ [] | false ↦ [] ] ++ unmarked (suc i) (drop (suc i) ms))
    unfolding unmarked
    next_name = rw (drop-cons ms i 0 k, unmarked) refl

    pub naming_none : (get_or ms i 0 ≡ 0 → ⊥) → Naming from ms l x m (i + 1)
    naming_none e = record {
      left = rw add-one (left_more h.left {a = []} (rw (ne_eqb (get_or ms i 0) 0 e) at next_name) (put_none x m));
      within = omega arith;
      room = omega (arith, h.room);
    }

    pub naming_more : {r : ℕ} {y : List ℕ} → get_or ms i 0 ≡ 0 → i < 65536 → Put x m (bytes " v" ++ decimal i) r y → Naming from ms l y r (i + 1)
    unfolding variable_names bytes
    naming_more e few p =
        let long = decimal_long i few in
        let rest = variable_names (unmarked (suc i) (drop (suc i) ms)) in
        record {
          left = rw add-one (left_more h.left ((rw (eq-eqb (get_or ms i 0) 0 e) at next_name) ∙ sym (append_assoc (bytes " v") (decimal i) rest)) p);
          within = omega arith;
          room = omega (arith, p.end, h.room, length-append (bytes " v") (decimal i));
        }

-- ---- the line

pub head_reach : {l : List ℕ} {i m : ℕ} {x : List ℕ} → Put l i (bytes "unread") m x → i ≤ 150000 → m ≤ 160000
unfolding bytes
head_reach head from = omega (arith, head.end, from)

module _ (vs marks : List ℕ) (vars : ℕ) (is : marks ≡ marked vs (replicate 1024 0)) (h : vars ≤ 1024) where
  pub first_long : vars ≡ length (take vars marks)
  first_long =
      let long = marked_long vs (replicate 1024 0) ∙ length-replicate {A = ℕ} 1024 0 in
      sym (length-take-le vars marks (rw is (omega (arith, h, long))))

  names_are : variable_names (unmarked 0 (take vars marks)) ≡ variable_names (left_out vs 0 vars)
  names_are = rw is (ap variable_names (unmarked_zeros vs 1024 vars h))

  module _ {l : List ℕ} {i m : ℕ} {x : List ℕ} {n : ℕ} {y : List ℕ} (head : Put l i (bytes "unread") m x)
      (names : Put x m (variable_names (unmarked 0 (take vars marks))) n y) (from : i ≤ 150000) where
    pub names_reach : n ≤ 159000
    unfolding bytes
    names_reach =
        let few = unread_short vs 0 vars (omega (arith, h)) in
        omega (arith, head.end, names.end, ap length names_are, few, from, h)

    pub unread_put : {r : ℕ} {z : List ℕ} → Put y n (bytes "\n") r z → Put l i (unread_line (left_out vs 0 vars)) r z × (r ≤ 160000)
    unfolding unread_line bytes
    unread_put last = (put_then head (put_then (rw names_are at names) last), omega (arith, last.end, names_reach))
