-- The list of an accepted ladder is one that List scan takes: question 10 gets a "yes", and so does question 12 for k × L. Assumes nothing.
use Rattle.std.specs.Prelude.{◌≡◌, true, ◌&&◌, ℕ, ◌+◌, ◌*◌, ◌≤◌, ◌<◌}
use Rattle.std.proofs.Common.{◌∙◌, mul-le-mul}
use Rattle.std.proofs.Math.Option.{none, some}
use mathlib.Core.List.{List, [], ◌∷◌, ◌++◌, flat_map, map}
use Rattle.std.proofs.Math.Nat.{zero-add}
use native.Mathlib.Omega.{arith}
use Rattle.std.proofs.Math.Dec.{T, ltb, leb, leb→le, le→leb, ltb→lt, lt→ltb}
use Rattle.std.proofs.Math.ListN.{length, length-append, length-map}
use Rattle.std.proofs.Math.Facts.{yes_and}
use Rattle.questions.specs.Tests.{all}
use Rattle.questions.proofs.Laws.Tests.{all_head, all_tail, all_cons, all_at}
use Rattle.questions.specs.Questions.{question12, most_rung_watchdog, most_instruction_watchdog}
use Rattle.questions.proofs.Laws.Answers.{passed_ask, vars_in_range_lem, in_range_watchdog}
use Rattle.table.specs.State.{table_size}
use Rattle.rungs.specs.Words.{operands, is_operand}
use Rattle.rungs.specs.Records.{RungRecord, laid, lay, longest, most_records}
use Rattle.rungs.proofs.Laws.Layout.{sizes, lay_length, lay_laid, longest_most, pieces_length}
use Rattle.ladder_definitions.specs.Tree.{contact, contactn, Front, input, front_and, front_or, Output, coil, coiln, jump, jumpn, set_coil, reset_coil, timer, Rear, output, rear_and, rear_or, Rung, Ladder, rung_all, output_names, number}
use Rattle.ladder_definitions.specs.Kept.{front_words, rear_words, rung_words, input_fits, output_fits}
use Rattle.ladder_definitions.specs.Questions.{named_below, output_below, rung_below, most_rungs, most_rung_words, Accepted}
use Rattle.ladder_definitions.proofs.Laws.Accepting.{sized}
use Rattle.list_definitions.specs.Instruction.{Instr, ST, AND, ANDN, OR, ORN, Operand, table_index, no_operand, instruction_index, timer_number, operand, operand_fits, instr_fits, instr_word, decode_code}
use Rattle.list_definitions.specs.Questions.{operand_in_range, instr_in_range, word_in_range, most_instructions, records_laid, list_in_range, question10}
use Rattle.list_definitions.proofs.Laws.Decoding.{decode_instr_lem, decode_code_lem}
use Rattle.translation_definitions.specs.Translate.{F, R, join, output_code, rung_code, translate, code_bound}
use Rattle.translation_definitions.proofs.Laws.Places.{label_of, size_by, list_of}
use Rattle.translation_definitions.proofs.Laws.Parts.{rung_long}
use Rattle.translation_definitions.proofs.Laws.Operands.{scratch_fits, codes_pass, rungs_outputs, rungs_any}
use Rattle.translation_definitions.proofs.Laws.Lists.{below_all, scratch_all, start, code, translate_is, start_near}

-- code whose operands question 10 takes, in a list of n instructions over a table of this size
abbrev pub InRange : ℕ → ℕ → List Instr → Type 0
InRange size n is = T (all (instr_in_range size n) is)

-- codes that pass the test of question 10
module _ (vars n : ℕ) (start : ℕ → ℕ) (near : (l : ℕ) → start l ≤ n) where
  abbrev size : ℕ
  size = table_size vars

  in_table : (x : ℕ) → x < size → T (operand_in_range size n (table_index x))
  unfolding operand_in_range
  in_table x h = lt→ltb x size h

  output_in_range : (o : Output) → T (output_below vars o) → T true → T (operand_in_range size n (operand (output_code start o)))
  unfolding output_code output_below named_below output_names operand operand_in_range
  output_in_range (coil v) b f = let l = ltb→lt v vars b in in_table v (omega arith)
  output_in_range (coiln v) b f = let l = ltb→lt v vars b in in_table v (omega arith)
  output_in_range (jump l) b f = le→leb (start l) n (near l)
  output_in_range (jumpn l) b f = le→leb (start l) n (near l)
  output_in_range (set_coil v) b f = let l = ltb→lt v vars b in in_table v (omega arith)
  output_in_range (reset_coil v) b f = let l = ltb→lt v vars b in in_table v (omega arith)
  output_in_range (timer k) b f = tt

  pub codes_in_range : (gs : Ladder) → T (all (rung_below vars) gs) → T (all scratch_fits gs) → InRange (table_size vars) n (flat_map (rung_code vars start) gs)
  codes_in_range gs b h = codes_pass vars start (operand_in_range size n) (λ o. true) (λ v l. in_table v (omega arith)) (λ d l. in_table (vars + d) (omega arith)) output_in_range gs b (rungs_any gs) h

  -- and operands of 16 bits, where V and the list's length allow no other, and the ladder's timer numbers have 16 bits
  module _ (table-few : size ≤ operands) (list_few : n < operands) where
    short : (x : ℕ) → x < operands → T (is_operand x)
    short x h = lt→ltb x operands h

    output_fits_lem : (o : Output) → T (output_below vars o) → T (output_fits o) → T (operand_fits (operand (output_code start o)))
    unfolding output_code output_below output_fits named_below output_names number operand operand_fits
    output_fits_lem (coil v) b f = f
    output_fits_lem (coiln v) b f = f
    output_fits_lem (jump l) b f = let h = near l in short (start l) (omega arith)
    output_fits_lem (jumpn l) b f = let h = near l in short (start l) (omega arith)
    output_fits_lem (set_coil v) b f = f
    output_fits_lem (reset_coil v) b f = f
    output_fits_lem (timer k) b f = f

    pub codes_fit : (gs : Ladder) → T (all (rung_below vars) gs) → T (all (rung_all input_fits output_fits) gs) → T (all scratch_fits gs)
        → T (all instr_fits (flat_map (rung_code vars start) gs))
    unfolding instr_fits operand_fits
    codes_fit gs b f h = codes_pass vars start operand_fits output_fits (λ v l. short v (omega arith)) (λ d l. short (vars + d) (omega arith)) output_fits_lem gs b
        (rungs_outputs input_fits output_fits gs f) h

-- ---- a rung has at most two instructions for a word

module _ (vars : ℕ) where
  through_short : (own : List Instr) (td : ℕ) (i : Instr) → length (ST td ∷ own ++ i ∷ []) ≡ length own + 2
  through_short own td i = length-append (ST td ∷ own) (i ∷ []) ∙ omega arith

  join_short : (op opn : ℕ → Instr) (g : Front) (own : List Instr) (td : ℕ) → length own + 1 ≤ code_bound (length (front_words g)) → length (join op opn g own td) ≤ code_bound (length (front_words g)) + 1
  unfolding join front_words
  join_short op opn (input (contact v)) own td h = omega arith
  join_short op opn (input (contactn v)) own td h = omega arith
  join_short op opn (front_and f g) own td h = rw (through_short own td (op td)) (omega arith)
  join_short op opn (front_or f g) own td h = rw (through_short own td (op td)) (omega arith)

  F_short : (f : Front) (d : ℕ) → length (F vars f d) + 1 ≤ code_bound (length (front_words f))
  unfolding F front_words
  F_short (input (contact v)) d = omega arith
  F_short (input (contactn v)) d = omega arith
  F_short (front_and f g) d =
      let hf = F_short f d in let hg = join_short AND ANDN g (F vars g (d + 1)) (vars + d) (F_short g (d + 1)) in
      rw (length-append (F vars f d), length-append (front_words f)) (omega arith)
  F_short (front_or f g) d =
      let hf = F_short f d in let hg = join_short OR ORN g (F vars g (d + 1)) (vars + d) (F_short g (d + 1)) in
      rw (length-append (F vars f d), length-append (front_words f)) (omega arith)

  R_short : (start : ℕ → ℕ) (r : Rear) (d : ℕ) → length (R vars start r d) + 1 ≤ code_bound (length (rear_words r))
  unfolding R rear_words
  R_short start (output o) d = omega arith
  R_short start (rear_and f r) d =
      let hf = join_short AND ANDN f (F vars f (d + 1)) (vars + d) (F_short f (d + 1)) in let hr = R_short start r d in
      rw (length-append (join AND ANDN f (F vars f (d + 1)) (vars + d)), length-append (front_words f)) (omega arith)
  R_short start (rear_or a b) d =
      let ha = R_short start a (d + 1) in let hb = R_short start b d in
      rw (length-append (R vars start a (d + 1)), length-append (rear_words a)) (omega arith)

  rung_short : (start : ℕ → ℕ) (g : Rung) → length (rung_code vars start g) ≤ code_bound (length (rung_words g))
  unfolding rung_code rung_words
  rung_short start g =
      let hf = F_short g.front 0 in let hr = R_short start g.rear 0 in
      rw (length-append (F vars g.front 0), length-append (front_words g.front)) (omega arith)

  pub codes_short : (start : ℕ → ℕ) (gs : Ladder) → length (flat_map (rung_code vars start) gs) ≤ code_bound (length (flat_map rung_words gs))
  unfolding flat_map
  codes_short start [] = omega arith
  codes_short start (g ∷ gs) =
      let h = rung_short start g in let hs = codes_short start gs in
      rw (length-append (rung_code vars start g), length-append (rung_words g)) (omega arith)

-- ---- questions 10 and 12

in_word : (size n : ℕ) (i : Instr) → T (instr_fits i) → T (instr_in_range size n i) → T (word_in_range size n (instr_word i))
unfolding word_in_range
in_word size n i f k = rw (decode_instr_lem i f, word_in_range) k

words_in_range : (size n : ℕ) (is : List Instr) → T (all instr_fits is) → InRange size n is → T (all (word_in_range size n) (map instr_word is))
words_in_range size n [] f h = tt
words_in_range size n (i ∷ is) f h =
    all_cons (word_in_range size n) (instr_word i) (map instr_word is) (in_word size n i (all_head instr_fits i is f) (all_head (instr_in_range size n) i is h))
    (words_in_range size n is (all_tail instr_fits i is f) (all_tail (instr_in_range size n) i is h))

module _ (vars : ℕ) (gs : Ladder) (a : Accepted vars gs) where
  abbrev translated : List Instr
  translated = flat_map (code vars gs) gs

  -- the numbers behind the limits of document 01
  record Limits : Type 0 where
    rungs : length gs ≤ most_rungs
    some_rung : 1 ≤ length gs
    range : table_size vars ≤ operands
    code_most : length translated ≤ most_instructions
    code_least : 1 ≤ length translated
    code_sizes : length translated ≡ sizes (size_by (code vars gs)) gs

  limits : Limits
  unfolding flat_map
  limits =
      let s = sized gs a.sizes in
      let words = s.words in
      let short = codes_short vars (start vars gs) gs in
      let v = vars_in_range_lem vars a.range in
      let most = v.1 in
      record {
        rungs = s.rungs;
        some_rung = a.some_rung;
        range = omega arith;
        code_most = omega arith;
        code_least = some_code gs a.some_rung;
        code_sizes = pieces_length (code vars gs) gs;
      }
    where
      some_code : (hs : Ladder) → 1 ≤ length hs → 1 ≤ length (flat_map (code vars gs) hs)
      some_code [] h = h
      some_code (g ∷ hs) h = let l = rung_long vars (start vars gs) g in rw (length-append (code vars gs g)) (omega arith)

  in_range : InRange (table_size vars) (length translated) translated
  in_range = codes_in_range vars (length translated) (start vars gs) (start_near vars gs) gs (below_all vars gs a) (scratch_all vars gs a)

  fits : T (all instr_fits translated)
  fits =
      let k = limits in
      let most = k.code_most in
      codes_fit vars (length translated) (start vars gs) (start_near vars gs) k.range (omega arith) gs (below_all vars gs a) a.fits (scratch_all vars gs a)

  abbrev laid_records : List RungRecord
  laid_records = lay label_of (size_by (code vars gs)) 0 gs

  some_length : (hs : Ladder) (from : ℕ) → T (all (λ r. ltb 0 r.length) (lay label_of (size_by (code vars gs)) from hs))
  unfolding lay
  some_length [] from = tt
  some_length (g ∷ hs) from =
      let l = rung_long vars (start vars gs) g in
      let rest = lay label_of (size_by (code vars gs)) (from + length (code vars gs g)) hs in
      yes_and (ltb 0 (length (code vars gs g))) (all (λ r. ltb 0 r.length) rest) (lt→ltb 0 (length (code vars gs g)) (omega arith)) (some_length hs (from + length (code vars gs g)))

  records_laid_lem : T (records_laid (length translated) laid_records)
  unfolding records_laid
  records_laid_lem = yes_and (laid 0 (length translated) laid_records) (all (λ r. ltb 0 r.length) laid_records)
      (rw limits.code_sizes (rw zero-add at (lay_laid label_of (size_by (code vars gs)) 0 gs)))
      (some_length gs 0)

  pub list_in_range_lem : question10 vars (map instr_word (translate vars gs).code) (translate vars gs).records ≡ none
  unfolding question10 list_in_range list_of
  list_in_range_lem =
      let k = limits in
      let least = k.code_least in let most = k.code_most in let some = k.some_rung in let rungs = k.rungs in
      let n = length translated in
      let m = length gs in
      let words = all (word_in_range (table_size vars) n) (map instr_word translated) in
      rw (translate_is vars gs, length-map translated instr_word, lay_length label_of (size_by (code vars gs)) 0 gs) (passed_ask 10 _
      (yes_and (leb 1 n && leb n most_instructions) _ (yes_and (leb 1 n) (leb n most_instructions) (le→leb 1 n least) (le→leb n most_instructions most))
      (yes_and (leb 1 m && leb m most_records) (records_laid n laid_records && words) (yes_and (leb 1 m) (leb m most_records) (le→leb 1 m some) (le→leb m most_records rungs))
      (yes_and (records_laid n laid_records) words records_laid_lem (words_in_range (table_size vars) n translated fits in_range)))))

  pub list_decodes : decode_code (map instr_word (translate vars gs).code) ≡ some (translate vars gs).code
  unfolding list_of
  list_decodes = rw (translate_is vars gs) (decode_code_lem translated fits)

  longest_in_range : longest (translate vars gs).records ≤ code_bound most_rung_words
  unfolding list_of
  longest_in_range = rw (translate_is vars gs) (longest_most label_of (size_by (code vars gs)) (code_bound most_rung_words) 0 gs λ pre g post e.
      let h = rung_short vars (start vars gs) g in
      let w = leb→le (length (rung_words g)) most_rung_words (all_at (λ r. leb (length (rung_words r)) most_rung_words) pre g post (small e)) in
      omega arith)
    where
      small : {hs : Ladder} → gs ≡ hs → T (all (λ r. leb (length (rung_words r)) most_rung_words) hs)
      small e = rw e at (sized gs a.sizes).words_a_rung

  pub watchdog_in_range : (k : ℕ) → k ≤ most_rung_watchdog → question12 most_instruction_watchdog (k * longest (translate vars gs).records) ≡ none
  watchdog_in_range k h =
      let l = longest_in_range in
      let m = mul-le-mul h l in
      in_range_watchdog most_instruction_watchdog _ (omega arith)
