-- Laws of questions 5 to 8 and 17: the first test that fails, the words of a rung tested one by one, timers, the walk over a ladder's rungs, labels.
-- Assumes nothing.
use Rattle.std.proofs.Common.{min, ◌≡◌, ℕ, zero, suc, ◌+◌, ◌-◌, ◌*◌, ◌/◌, ◌%◌, ◌^◌, ◌<◌, ◌≤◌, Bool, true, false, not, ◌&&◌, ◌||◌, T, eqb, ltb, leb, List, [], ◌∷◌, ◌++◌, map, length, get_or, take, drop, sym, refl, ap, ◌∙◌, true≢false, append_assoc, append-nil, add-one, arith, ltb→lt, length-append, length-take-le, drop-cons, get_or-take, below_more, le-ltb, lt-ltb, eq-eqb, ne_eqb, le-leb}
use native.Mathlib.Decide.{dec_lt}
use mathlib.Core.Bool.{and_assoc, and-true, or-true}
use mathlib.Core.Option.{none, some}
use Rattle.std.specs.Prelude.{Option as Place, Some, None}
use mathlib.Core.List.{flat_map}
use lib.ListN.{length-map}
use lib.Seq.{take-length, take-suc, take-append_seam, drop-append_seam}
use mir.Facts.{and_yes}
use borrow.Author.Tests.{lt-leb}
use Rattle.questions.specs.Tests.{all, first_failed}
use Rattle.questions.proofs.Laws.Tests.{T→true, all_head, all_tail, all_weaker, failed_none}
use Rattle.rungs.specs.Words.{operands, word, number_of, operand_of}
use Rattle.rungs.specs.Records.{search, present}
use Rattle.rungs.proofs.Laws.Search.{search_before, search_past}
use Rattle.ladder_definitions.specs.Tree.{Input, contact, contactn, Front, input, front_and, front_or, Output, coil, coiln, jump, jumpn, set_coil, reset_coil, timer, Rear, output, rear_and, rear_or, Rung, Ladder, input_variable, output_names, number, front_all, rear_all, rung_all}
use Rattle.ladder_definitions.specs.Kept.{input_kind, output_kind, no_name, name_sorts, name_sort, input_word, output_word, front_words, rear_words, rung_words, encode, input_fits, output_fits}
use Rattle.ladder_definitions.specs.Questions.{most_rungs, most_words, sizes_in_range, input_below, named_below, output_below, new_labels, named_leads, output_leads, named_timed, output_timed, timers_known}
use Rattle.ladder_kinds.specs.Kinds.{names_variable, names_label, names_timer}
use Rattle.ladder_kinds.proofs.Laws.Sorts.{timer_tests}
use Rattle.ladder_names.specs.Asking.{LadderIn, place_of, length_in_range, operand_below, operand_leads, operand_timed, word_below, word_stays, word_leads, word_timed, SizesAsked, RiseAsked, LabelsAsked, TimersAsked}
use Rattle.ladder_definitions.specs.Roots.{front_kind, rear_kind}

-- ---- the first test that fails

-- the tests before k passed
abbrev pub Passed : List Bool → ℕ → Type 0
Passed bs k = (m : ℕ) → m < k → get_or bs m true ≡ true

none_before : (bs : List Bool) → Passed bs 0
none_before bs m h = absurd (omega arith)

passed_more : (bs : List Bool) (k : ℕ) → Passed bs k → get_or bs k true ≡ true → Passed bs (k + 1)
passed_more bs k h e = below_more (λ m. get_or bs m true ≡ true) k h e

failed_at : (bs : List Bool) (k : ℕ) → Passed bs k → get_or bs k true ≡ false → some k ≡ first_failed bs
unfolding first_failed
failed_at [] k h e = absurd (true≢false e)
failed_at (true ∷ bs) zero h e = absurd (true≢false e)
failed_at (true ∷ bs) (suc k) h e = rw (← (failed_at bs k (λ m l. h (suc m) (omega arith)) e))
failed_at (false ∷ bs) zero h e = refl
failed_at (false ∷ bs) (suc k) h e = absurd (true≢false (sym (h 0 (omega arith))))

none_failed : (bs : List Bool) (k : ℕ) → Passed bs k → length bs ≤ k → none ≡ first_failed bs
unfolding first_failed
none_failed [] k h e = refl
none_failed (b ∷ bs) zero h e = absurd (omega arith)
none_failed (true ∷ bs) (suc k) h e = rw (← (none_failed bs k (λ m l. h (suc m) (omega arith)) (omega arith)))
none_failed (false ∷ bs) (suc k) h e = absurd (true≢false (sym (h 0 (omega arith))))

-- ---- lists

pub get_d_map : {A B : Type 0} (f : A → B) (xs : List A) (k : ℕ) (d : A) (e : B) → k < length xs → get_or (map f xs) k e ≡ f (get_or xs k d)
get_d_map f [] k d e h = absurd (omega arith)
get_d_map f (x ∷ xs) zero d e h = refl
get_d_map f (x ∷ xs) (suc k) d e h = get_d_map f xs k d e (omega arith)

module _ {A : Type 0} (test : A → Bool) where
  all_both : (xs ys : List A) → all test (xs ++ ys) ≡ (all test xs && all test ys)
  all_both [] ys = refl
  all_both (x ∷ xs) ys = rw (all_both xs ys) (sym (and_assoc (test x) (all test xs) (all test ys)))

  -- a loop that tests every entry: the answer of one entry more, and of all
  pub asked_more : (xs : List A) (i : ℕ) (d : A) {b r : Bool} → i < length xs → b ≡ all test (take i xs) → r ≡ test (get_or xs i d) → (b && r) ≡ all test (take (i + 1) xs)
  asked_more xs i d h e f = rw (e, f, add-one, take-suc xs i d h, all_both (take i xs) (get_or xs i d ∷ []), and-true (test (get_or xs i d))) refl

  pub asked_end : (xs : List A) (i : ℕ) {b : Bool} → i ≡ length xs → b ≡ all test (take i xs) → b ≡ all test xs
  asked_end xs i h e = e ∙ ap (λ n. all test (take n xs)) h ∙ ap (all test) (take-length xs)

all_map : {A B : Type 0} (test : B → Bool) (f : A → B) (xs : List A) → all test (map f xs) ≡ all (λ x. test (f x)) xs
all_map test f [] = refl
all_map test f (x ∷ xs) = rw (all_map test f xs)

-- ---- the words of a rung, tested one by one

-- a test of words that says of a tree's words what two tests say of its inputs and outputs
pub record Tests (test : ℕ → Bool) (inputs : Input → Bool) (outputs : Output → Bool) : Type 0 where
  pub of_input : (i : Input) → T (input_fits i) → test (input_word i) ≡ inputs i
  pub of_output : (o : Output) → T (output_fits o) → test (output_word o) ≡ outputs o
  pub of_root : (k : ℕ) → name_sort k ≡ no_name → test (word k 0) ≡ true

module _ {test : ℕ → Bool} {inputs : Input → Bool} {outputs : Output → Bool} (t : Tests test inputs outputs) where
  front_tested : (f : Front) → T (front_all input_fits f) → all test (front_words f) ≡ front_all inputs f
  unfolding front_words front_all name_sort name_sorts
  front_tested (input i) h = rw (t.of_input i h) (and-true (inputs i))
  front_tested (front_and f g) h =
      let b = and_yes (front_all input_fits f) (front_all input_fits g) h in
      rw (t.of_root (front_kind (front_and f g)) refl, all_both test (front_words f) (front_words g), front_tested f b.0, front_tested g b.1)
  front_tested (front_or f g) h =
      let b = and_yes (front_all input_fits f) (front_all input_fits g) h in
      rw (t.of_root (front_kind (front_or f g)) refl, all_both test (front_words f) (front_words g), front_tested f b.0, front_tested g b.1)

  rear_tested : (r : Rear) → T (rear_all input_fits output_fits r) → all test (rear_words r) ≡ rear_all inputs outputs r
  unfolding rear_words rear_all name_sort name_sorts
  rear_tested (output o) h = rw (t.of_output o h) (and-true (outputs o))
  rear_tested (rear_and f r) h =
      let b = and_yes (front_all input_fits f) (rear_all input_fits output_fits r) h in
      rw (t.of_root (rear_kind (rear_and f r)) refl, all_both test (front_words f) (rear_words r), front_tested f b.0, rear_tested r b.1)
  rear_tested (rear_or p q) h =
      let b = and_yes (rear_all input_fits output_fits p) (rear_all input_fits output_fits q) h in
      rw (t.of_root (rear_kind (rear_or p q)) refl, all_both test (rear_words p) (rear_words q), rear_tested p b.0, rear_tested q b.1)

  rung_tested : (g : Rung) → T (rung_all input_fits output_fits g) → all test (rung_words g) ≡ rung_all inputs outputs g
  unfolding rung_words rung_all
  rung_tested g h =
      let b = and_yes (front_all input_fits g.front) (rear_all input_fits output_fits g.rear) h in
      rw (all_both test (front_words g.front) (rear_words g.rear), front_tested g.front b.0, rear_tested g.rear b.1)

  ladder_tested : (gs : Ladder) → T (all (rung_all input_fits output_fits) gs) → all test (flat_map rung_words gs) ≡ all (rung_all inputs outputs) gs
  unfolding flat_map
  ladder_tested [] h = refl
  ladder_tested (g ∷ gs) h =
      let fits = rung_all input_fits output_fits in
      rw (all_both test (rung_words g) (flat_map rung_words gs), rung_tested g (all_head fits g gs h), ladder_tested gs (all_tail fits g gs h))

  -- all words pass: no rung fails
  pub words_pass : {ws ns : List ℕ} → all test ws ≡ true → (gs : Ladder) → LadderIn ws ns gs → place_of None ≡ first_failed (map (rung_all inputs outputs) gs)
  unfolding place_of
  words_pass e gs l =
      let q = sym (ladder_tested gs l.fits) ∙ sym (ap (all test) l.words) ∙ e in
      sym (failed_none (rung_all inputs outputs) gs (rw q tt))

  -- the rungs are tested as their words are
  pub rungs_tested : (gs : Ladder) → T (all (rung_all input_fits output_fits) gs)
      → map (λ g. all test (rung_words g)) gs ≡ map (rung_all inputs outputs) gs
  rungs_tested [] h = refl
  rungs_tested (g ∷ gs) h =
      let fits = rung_all input_fits output_fits in
      rw (rung_tested g (all_head fits g gs h), rungs_tested gs (all_tail fits g gs h)) refl

-- the kind and the operand of a word are read back
kept : (test : ℕ → ℕ → Bool) (k o : ℕ) → T (ltb o operands) → test (word k o / operands) (word k o % operands) ≡ test k o
kept test k o h =
    let l = ltb→lt o operands h in
    let p : word k o / operands ≡ k = omega arith in
    let q : word k o % operands ≡ o = omega arith in
    rw (p, q)

-- such a test by kind and operand; a root names nothing
tests_of : (test : ℕ → ℕ → Bool) (inputs : Input → Bool) (outputs : Output → Bool)
    → ((i : Input) → test (input_kind i) (input_variable i) ≡ inputs i) → ((o : Output) → test (output_kind o) (number (output_names o)) ≡ outputs o)
    → ((k : ℕ) → name_sort k ≡ no_name → test k 0 ≡ true)
    → Tests (λ w. test (number_of w) (operand_of w)) inputs outputs
unfolding input_fits output_fits input_word output_word
tests_of test inputs outputs of_input of_output of_root = record {
  of_input = λ i h. kept test (input_kind i) (input_variable i) h ∙ of_input i;
  of_output = λ o h. kept test (output_kind o) (number (output_names o)) h ∙ of_output o;
  of_root = λ k e. kept test k 0 tt ∙ of_root k e;
}

pub below_tests : (vars : ℕ) → Tests (word_below vars) (input_below vars) (output_below vars)
unfolding operand_below names_variable name_sort name_sorts input_kind input_variable input_below output_kind output_names number output_below named_below
below_tests vars = tests_of (operand_below vars) (input_below vars) (output_below vars) inputs outputs roots
  where
    roots : (k : ℕ) → name_sort k ≡ no_name → operand_below vars k 0 ≡ true
    roots k e = rw (e, names_variable)

    inputs : (i : Input) → operand_below vars (input_kind i) (input_variable i) ≡ input_below vars i
    inputs (contact v) = refl
    inputs (contactn v) = refl

    outputs : (o : Output) → operand_below vars (output_kind o) (number (output_names o)) ≡ output_below vars o
    outputs (coil v) = refl
    outputs (coiln v) = refl
    outputs (jump l) = refl
    outputs (jumpn l) = refl
    outputs (set_coil v) = refl
    outputs (reset_coil v) = refl
    outputs (timer n) = refl

pub leads_tests : (ls : List ℕ) → Tests (word_leads ls) (λ i. true) (output_leads ls)
unfolding operand_leads names_label name_sort name_sorts input_kind output_kind output_names number output_leads named_leads
leads_tests ls = tests_of (operand_leads ls) (λ i. true) (output_leads ls) inputs outputs roots
  where
    roots : (k : ℕ) → name_sort k ≡ no_name → operand_leads ls k 0 ≡ true
    roots k e = rw (e, names_label)

    inputs : (i : Input) → operand_leads ls (input_kind i) (input_variable i) ≡ true
    inputs (contact v) = refl
    inputs (contactn v) = refl

    outputs : (o : Output) → operand_leads ls (output_kind o) (number (output_names o)) ≡ output_leads ls o
    outputs (coil v) = refl
    outputs (coiln v) = refl
    outputs (jump l) = refl
    outputs (jumpn l) = refl
    outputs (set_coil v) = refl
    outputs (reset_coil v) = refl
    outputs (timer n) = refl

timed_tests : (records : ℕ) → Tests (word_timed records) (λ i. true) (output_timed records)
unfolding operand_timed names_timer name_sort name_sorts input_kind output_kind output_names number output_timed named_timed
timed_tests records = tests_of (operand_timed records) (λ i. true) (output_timed records) inputs outputs roots
  where
    roots : (k : ℕ) → name_sort k ≡ no_name → operand_timed records k 0 ≡ true
    roots k e = rw (e, names_timer)

    inputs : (i : Input) → operand_timed records (input_kind i) (input_variable i) ≡ true
    inputs (contact v) = refl
    inputs (contactn v) = refl

    outputs : (o : Output) → operand_timed records (output_kind o) (number (output_names o)) ≡ output_timed records o
    outputs (coil v) = refl
    outputs (coiln v) = refl
    outputs (jump l) = refl
    outputs (jumpn l) = refl
    outputs (set_coil v) = refl
    outputs (reset_coil v) = refl
    outputs (timer n) = refl

-- what the code asks of a kind and an operand
pub below_operand : (vars k o : ℕ) (r : Bool) → r ≡ names_variable k → (not r || ltb o vars) ≡ operand_below vars k o
unfolding operand_below
below_operand vars k o r e = rw e

module _ (ls : List ℕ) (k o : ℕ) where
  pub leads_label : (r : ℕ) → names_label k ≡ true → r ≡ search o ls → ltb r (length ls) ≡ operand_leads ls k o
  unfolding operand_leads present
  leads_label r h e = rw (h, e)

  pub leads_other : (r : Bool) → r ≡ names_label k → r ≡ false → not r ≡ operand_leads ls k o
  unfolding operand_leads
  leads_other r e h = let n = sym e ∙ h in rw (h, n) refl

-- words that name no label pass
pub stays_leads : (ls ws : List ℕ) → all word_stays ws ≡ true → all (word_leads ls) ws ≡ true
unfolding operand_leads
stays_leads ls ws e =
    T→true (all (word_leads ls) ws) (all_weaker word_stays (word_leads ls) (λ w. either (word_stays w) (present (operand_of w) ls)) ws (rw e tt))
  where
    either : (a b : Bool) → T a → T (a || b)
    either true b t = tt
    either false b t = absurd t

-- ---- question 17

-- what the code asks of a word: less the first word past all timers, modulo 2^32, it is no more than the word of the last timer with a record
abbrev less : ℕ → ℕ
less w = (w + (2 ^ 32 - 14 * operands)) % 2 ^ 32

pub timed_word : (records w : ℕ) → records < operands → w < 2 ^ 32 → leb (less w) (2 ^ 32 - 1 - operands + records) ≡ word_timed records w
unfolding operand_timed
timed_word records w h l = rw (← (timer_tests (number_of w))) (go (dec_lt (last_known) (less w)) (dec_lt w (13 * operands)) (dec_lt w (14 * operands)))
  where
    last_known : ℕ
    last_known = 2 ^ 32 - 1 - operands + records

    go : Dec (last_known < less w) → Dec (w < 13 * operands) → Dec (w < 14 * operands)
        → leb (less w) last_known ≡ (not (eqb (number_of w) 13) || ltb (operand_of w) records)
    go (yes c) a b = rw (lt-leb (less w) last_known c, eq-eqb (number_of w) 13 (omega arith), le-ltb (operand_of w) records (omega arith)) refl
    go (no c) (yes a) b = rw (le-leb (less w) last_known (omega arith), ne_eqb (number_of w) 13 (λ e. omega arith)) refl
    go (no c) (no a) (yes b) = rw (le-leb (less w) last_known (omega arith), eq-eqb (number_of w) 13 (omega arith), lt-ltb (operand_of w) records (omega arith)) refl
    go (no c) (no a) (no b) = rw (le-leb (less w) last_known (omega arith), ne_eqb (number_of w) 13 (λ e. omega arith)) refl

many_records : (records : ℕ) (ws : List ℕ) → operands ≤ records → all (word_timed records) ws ≡ true
unfolding operand_timed
many_records records [] h = refl
many_records records (w ∷ ws) h = rw (lt-ltb (operand_of w) records (omega arith), or-true (not (names_timer (number_of w))), many_records records ws h)

module _ {records : ℕ} {ws : List ℕ} where
  pub timers_asked : {r : Bool} → r ≡ all (word_timed records) ws → TimersAsked records ws r
  unfolding timers_known
  timers_asked e = record { same = λ gs l. e ∙ ap (all (word_timed records)) l.words ∙ ladder_tested (timed_tests records) gs l.fits }

  -- more records than there are timer numbers
  pub timers_many : operands ≤ records → TimersAsked records ws true
  timers_many h = timers_asked (sym (many_records records ws h))

-- ---- question 5

module _ (ws ns : List ℕ) where
  sizes_asked : (gs : Ladder) → LadderIn ws ns gs → sizes_in_range gs ≡ (leb (length ns) most_rungs && (all length_in_range ns && leb (length ws) most_words))
  unfolding sizes_in_range encode
  sizes_asked gs l = rw (l.words, l.lengths, length-map gs (λ g. length (rung_words g)), all_map length_in_range (λ g. length (rung_words g)) gs)

  pub sizes_tested : {r : Bool} → (leb (length ns) most_rungs && (all length_in_range ns && leb (length ws) most_words)) ≡ r → SizesAsked ws ns r
  sizes_tested e = record { same = λ gs l. sym (sizes_asked gs l ∙ e) }

-- ---- the walk over a ladder's rungs

-- the loop's invariant: the words left are those of the rungs from k on, and the rungs before passed
pub record Walked (test : List ℕ → Bool) (ws ns rest : List ℕ) (k : ℕ) : Type 0 where
  pub left : (gs : Ladder) → LadderIn ws ns gs → rest ≡ flat_map rung_words (drop k gs)
  pub passed : (gs : Ladder) → LadderIn ws ns gs → Passed (map (λ g. test (rung_words g)) gs) k

pub walk_start : (test : List ℕ → Bool) (ws ns : List ℕ) → Walked test ws ns ws 0
walk_start test ws ns = record { left = λ gs l. l.words; passed = λ gs l. none_before (map (λ g. test (rung_words g)) gs) }

-- stands past the last rung
blank : Rung
blank = record { label = 0; front = input (contact 0); rear = output (coil 0) }

ladder_length : {ws ns : List ℕ} {gs : Ladder} → LadderIn ws ns gs → length gs ≡ length ns
ladder_length {ws} {ns} {gs} l = sym (rw l.lengths (length-map gs (λ g. length (rung_words g))))

-- the words left, split at the length of the rung at place k
record Here (rest : List ℕ) (gs : Ladder) (k split : ℕ) : Type 0 where
  words : take split rest ≡ rung_words (get_or gs k blank)
  later : drop split rest ≡ flat_map rung_words (drop (suc k) gs)

here : {ws ns rest : List ℕ} {gs : Ladder} {k split : ℕ} → LadderIn ws ns gs → rest ≡ flat_map rung_words (drop k gs)
    → k < length ns → split ≡ min (length rest) (get_or ns k 0) → Here rest gs k split
unfolding flat_map
here {ws} {ns} {rest} {gs} {k} {split} l left h e =
    let m = ladder_length l in
    let g = get_or gs k blank in
    let size : get_or ns k 0 ≡ length (rung_words g) = rw l.lengths (get_d_map (λ x. length (rung_words x)) gs k blank 0 (omega arith)) in
    let now : rest ≡ rung_words g ++ flat_map rung_words (drop (suc k) gs) = rw (drop-cons gs k blank (omega arith)) at left in
    let count = ap length now ∙ length-append (rung_words g) (flat_map rung_words (drop (suc k) gs)) in
    let many : split ≡ length (rung_words g) = omega arith in
    record {
      words = rw (many, now) (take-append_seam (rung_words g) (flat_map rung_words (drop (suc k) gs)));
      later = rw (many, now) (drop-append_seam (rung_words g) (flat_map rung_words (drop (suc k) gs)));
    }

module _ {test : List ℕ → Bool} {ws ns rest : List ℕ} {k : ℕ} (w : Walked test ws ns rest k) where
  module _ {split : ℕ} (h : k < length ns) (e : split ≡ min (length rest) (get_or ns k 0)) where
    tested : (gs : Ladder) → LadderIn ws ns gs → get_or (map (λ g. test (rung_words g)) gs) k true ≡ test (take split rest)
    tested gs l =
        let m = ladder_length l in
        get_d_map (λ g. test (rung_words g)) gs k blank true (omega arith) ∙ sym (ap test (here l (w.left gs l) h e).words)

    pub walk_failed : test (take split rest) ≡ false → (gs : Ladder) → LadderIn ws ns gs → place_of (Some k) ≡ first_failed (map (λ g. test (rung_words g)) gs)
    unfolding place_of
    walk_failed f gs l = failed_at (map (λ g. test (rung_words g)) gs) k (w.passed gs l) (tested gs l ∙ f)

    pub walk_more : test (take split rest) ≡ true → Walked test ws ns (drop split rest) (k + 1)
    walk_more f = record {
      left = λ gs l. rw add-one (here l (w.left gs l) h e).later;
      passed = λ gs l. passed_more (map (λ g. test (rung_words g)) gs) k (w.passed gs l) (tested gs l ∙ f);
    }

  pub walk_end : length ns ≤ k → (gs : Ladder) → LadderIn ws ns gs → place_of None ≡ first_failed (map (λ g. test (rung_words g)) gs)
  unfolding place_of
  walk_end h gs l =
      let m = ladder_length l in
      none_failed (map (λ g. test (rung_words g)) gs) k (w.passed gs l) (rw (length-map gs (λ g. test (rung_words g))) (omega arith))

-- ---- labels

-- a label is present where it stands, and nowhere else
present_at : (l : ℕ) (ls : List ℕ) (i : ℕ) → i < length ls → get_or ls i 0 ≡ l → present l ls ≡ true
unfolding present
present_at l ls i h e = let b = search_before l ls i h e in lt-ltb (search l ls) (length ls) (omega arith)

absent : (l : ℕ) (ls : List ℕ) → ((i : ℕ) → i < length ls → get_or ls i 0 ≡ l → ⊥) → present l ls ≡ false
unfolding present
absent l ls h = let e = search_past l ls h in le-ltb (search l ls) (length ls) (omega arith)

new_length : (es ls : List ℕ) → length (new_labels es ls) ≡ length ls
unfolding new_labels
new_length es [] = refl
new_length es (l ∷ ls) = ap suc (new_length (es ++ l ∷ []) ls)

new_at : (es ls : List ℕ) (j : ℕ) → j < length ls → get_or (new_labels es ls) j true ≡ not (present (get_or ls j 0) (es ++ take j ls))
unfolding new_labels
new_at es [] j h = absurd (omega arith)
new_at es (l ∷ ls) zero h = rw append-nil
new_at es (l ∷ ls) (suc j) h = new_at (es ++ l ∷ []) ls j (omega arith) ∙ rw append_assoc

-- the loops' invariants: the labels before j are new; none of those before i is the one at j
pub record Outer (ls : List ℕ) (end : ℕ) (found : Place ℕ) (j : ℕ) : Type 0 where
  pub nothing : found ≡ None
  pub last : end ≡ length ls
  pub passed : Passed (new_labels [] ls) j

pub record Inner (ls : List ℕ) (j : ℕ) (found : Place ℕ) (i : ℕ) : Type 0 where
  pub nothing : found ≡ None
  pub others : (m : ℕ) → m < i → get_or ls m 0 ≡ get_or ls j 0 → ⊥

pub outer_start : (ls : List ℕ) → Outer ls (length ls) None 0
outer_start ls = record { nothing = refl; last = refl; passed = none_before (new_labels [] ls) }

module _ {ls : List ℕ} {end : ℕ} {found : Place ℕ} {j : ℕ} (o : Outer ls end found j) where
  pub outer_end : end ≤ j → LabelsAsked ls found
  unfolding place_of
  outer_end h = record {
    same = ap place_of o.nothing ∙ none_failed (new_labels [] ls) j o.passed (rw (new_length [] ls) (omega (arith, o.last)));
  }

  pub inner_start : Inner ls j found 0
  inner_start = record { nothing = o.nothing; others = λ m h. absurd (omega arith) }

  module _ (w : j < end) {found' : Place ℕ} {i : ℕ} (n : Inner ls j found' i) where
    pub inner_found : i < j → get_or ls i 0 ≡ get_or ls j 0 → LabelsAsked ls (Some j)
    unfolding place_of
    inner_found h e =
        let k : j < length ls = omega (arith, o.last) in
        let p = present_at (get_or ls j 0) (take j ls) i (rw (length-take-le j ls (omega arith)) h) (get_or-take j ls i 0 h ∙ e) in
        record { same = failed_at (new_labels [] ls) j o.passed (new_at [] ls j k ∙ ap not p) }

    pub inner_more : i < j → (get_or ls i 0 ≡ get_or ls j 0 → ⊥) → Inner ls j found' (i + 1)
    inner_more h e = record { nothing = n.nothing; others = below_more (λ m. get_or ls m 0 ≡ get_or ls j 0 → ⊥) i n.others e }

    pub outer_more : j ≤ i → Outer ls end found' (j + 1)
    outer_more h =
        let k : j < length ls = omega (arith, o.last) in
        let size = length-take-le j ls (omega arith) in
        let p = absent (get_or ls j 0) (take j ls) (λ m q e. n.others m (omega arith) (sym (get_or-take j ls m 0 (omega arith)) ∙ e)) in
        record { nothing = n.nothing; last = o.last; passed = passed_more (new_labels [] ls) j o.passed (new_at [] ls j k ∙ ap not p) }

-- labels that rise: those before i are new, and none of them is above the last
pub record Rising (ls : List ℕ) (i : ℕ) : Type 0 where
  pub begun : 1 ≤ i
  pub passed : Passed (new_labels [] ls) i
  pub most : (m : ℕ) → m < i → get_or ls m 0 ≤ get_or ls (i - 1) 0

first_new : (ls : List ℕ) → get_or (new_labels [] ls) 0 true ≡ true
unfolding new_labels
first_new [] = refl
first_new (l ∷ ls) = ap not (absent l [] (λ i h e. absurd (omega arith)))

pub rising_start : (ls : List ℕ) → Rising ls 1
rising_start ls = record {
  begun = omega arith;
  passed = passed_more (new_labels [] ls) 0 (none_before (new_labels [] ls)) (first_new ls);
  most = below_more (λ m. get_or ls m 0 ≤ get_or ls 0 0) 0 (λ m h. absurd (omega arith)) (omega arith);
}

module _ {ls : List ℕ} {i : ℕ} (r : Rising ls i) where
  pub rising_more : i < length ls → get_or ls (i - 1) 0 < get_or ls i 0 → Rising ls (i + 1)
  rising_more h u =
      let size = length-take-le i ls (omega arith) in
      let below : (m : ℕ) → m < i → get_or ls m 0 < get_or ls i 0 = λ m k. omega (arith, r.most m k) in
      let p = absent (get_or ls i 0) (take i ls) (λ m q e. let d = below m (omega arith) in let g = sym (get_or-take i ls m 0 (omega arith)) ∙ e in absurd (omega arith)) in
      let last : i + 1 - 1 ≡ i = omega arith in
      record {
        begun = omega arith;
        passed = passed_more (new_labels [] ls) i r.passed (new_at [] ls i h ∙ ap not p);
        most = rw last (below_more (λ m. get_or ls m 0 ≤ get_or ls i 0) i (λ m k. omega (arith, below m k)) (omega arith));
      }

  pub rising_end : length ls ≤ i → RiseAsked ls true
  rising_end h = record { new = λ e. none_failed (new_labels [] ls) i r.passed (rw (new_length [] ls) h) }

pub rising_not : (ls : List ℕ) → RiseAsked ls false
rising_not ls = record { new = λ e. absurd (true≢false (sym e)) }

pub risen : {ls : List ℕ} {r : Bool} → RiseAsked ls r → r ≡ true → LabelsAsked ls None
unfolding place_of
risen a e = record { same = a.new e }
