-- What holds of the ladder of every text: its operands fit, its scratch is in range, it has a rung. Assumes nothing.
use Rattle.std.specs.Prelude.{ℕ, zero, suc, ◌+◌, ◌*◌, ◌≤◌, max, ◌≡◌, refl, Bool, List, T, leb, length}
use Rattle.std.proofs.Common.{arith, le→leb, lt→ltb}
use Rattle.std.proofs.Math.Option.{none, some}
use Rattle.std.proofs.Math.Facts.{yes_and}
use Rattle.questions.specs.Tests.{all}
use Rattle.questions.proofs.Laws.Tests.{all_one, all_cons}
use Rattle.questions.proofs.Laws.Answers.{passed_ask}
use Rattle.table.specs.State.{scratch_bytes}
use Rattle.rungs.specs.Words.{operands, is_operand}
use Rattle.ladder_definitions.specs.Tree.{contact, contactn, Front, input, front_and, front_or, Output, Rear, output, rear_and, rear_or, front_all, rear_all, rung_all, Rung, Ladder, input_variable}
use Rattle.ladder_definitions.specs.Kept.{encode, decode, input_fits, output_fits}
use Rattle.ladder_definitions.specs.Questions.{join_scratch, front_scratch, rear_scratch, rung_scratch, scratch_in_range, question4, question9}
use Rattle.ladder_definitions.proofs.Theorems.{decoded_exactly}
use Rattle.ladder_definitions.proofs.Laws.Accepting.{ladder_is, some_question4}
use Rattle.ladder_definitions.proofs.Laws.Scratch.{join_few}
use Rattle.text_grammar.specs.Grammar.{IsNumber, nought, digits, IsFront, one_term, more_term, IsTerm, one_factor, more_factor, IsFactor, c_number, n_number, in_round, IsRear, one_branch, more_branch, IsBranch, at_end, factor_and, IsEnd, output_number, in_square, IsLine, line, IsText, one_line, more_lines, most_brackets}
use Rattle.text_grammar.proofs.Laws.Letters.{Letter, letter}

number_fits : {w : List ℕ} {v : ℕ} → IsNumber w v → T (is_operand v)
number_fits nought = lt→ltb 0 operands (omega arith)
number_fits (digits {v = v} x h) = lt→ltb v operands (omega arith)

abbrev front_fits : Front → Bool
front_fits f = front_all input_fits f

abbrev rear_fits : Rear → Bool
rear_fits r = rear_all input_fits output_fits r

-- a front whose operands fit and whose code takes at most n scratch bytes
record FrontIn (n : ℕ) (f : Front) : Type 0 where
  fit : T (front_fits f)
  own : front_scratch f ≤ n

-- and which is joined to another within n bytes too
record Joined (n : ℕ) (f : Front) : Type 0 where
  front : FrontIn n f
  join : join_scratch f (front_scratch f) ≤ n

record RearIn (n : ℕ) (r : Rear) : Type 0 where
  fit : T (rear_fits r)
  own : rear_scratch r ≤ n

-- a front joins within one byte more than its own
joins : {n m : ℕ} {f : Front} → n + 1 ≤ m → FrontIn n f → Joined m f
joins {f = f} l x =
    let o = x.own in
    let j = join_few f (front_scratch f) in
    record { front = record { fit = x.fit; own = omega arith }; join = omega arith }

front_more : {n m : ℕ} {f : Front} → n ≤ m → FrontIn n f → FrontIn m f
front_more l x = let o = x.own in record { fit = x.fit; own = omega arith }

rear_more : {n m : ℕ} {r : Rear} → n ≤ m → RearIn n r → RearIn m r
rear_more l x = let o = x.own in record { fit = x.fit; own = omega arith }

contact_joined : (n v : ℕ) → T (is_operand v) → Joined n (input (contact v))
unfolding front_all input_fits input_variable front_scratch join_scratch
contact_joined n v h = record { front = record { fit = h; own = omega arith }; join = omega arith }

contactn_joined : (n v : ℕ) → T (is_operand v) → Joined n (input (contactn v))
unfolding front_all input_fits input_variable front_scratch join_scratch
contactn_joined n v h = record { front = record { fit = h; own = omega arith }; join = omega arith }

and_in : {n : ℕ} {f g : Front} → FrontIn n f → Joined n g → FrontIn n (front_and f g)
unfolding front_all front_scratch
and_in {f = f} {g = g} x y = let a = x.own in let b = y.join in record { fit = yes_and (front_fits f) (front_fits g) x.fit y.front.fit; own = omega arith }

or_in : {n : ℕ} {f g : Front} → FrontIn n f → Joined n g → FrontIn n (front_or f g)
unfolding front_all front_scratch
or_in {f = f} {g = g} x y = let a = x.own in let b = y.join in record { fit = yes_and (front_fits f) (front_fits g) x.fit y.front.fit; own = omega arith }

output_in : {b : ℕ} {make : ℕ → Output} (n v : ℕ) → Letter b make → T (is_operand v) → RearIn n (output (make v))
unfolding rear_all output_fits rear_scratch
output_in n v x h = record { fit = rw (x.names v) h; own = omega arith }

rear_and_lem : {n : ℕ} {f : Front} {r : Rear} → Joined n f → RearIn n r → RearIn n (rear_and f r)
unfolding rear_all rear_scratch
rear_and_lem {f = f} {r = r} x y = let a = x.join in let b = y.own in record { fit = yes_and (front_fits f) (rear_fits r) x.front.fit y.fit; own = omega arith }

rear_or_lem : {n : ℕ} {r q : Rear} → RearIn n r → RearIn (n + 1) q → RearIn (n + 1) (rear_or r q)
unfolding rear_all rear_scratch
rear_or_lem {r = r} {q = q} x y = let a = x.own in let b = y.own in record { fit = yes_and (rear_fits r) (rear_fits q) x.fit y.fit; own = omega arith }

-- terms and fronts with d brackets, where factors with d brackets join within 2 * d
module _ (d : ℕ) (factors : (w : List ℕ) (f : Front) → IsFactor d w f → Joined (2 * d) f) where
  term_in : {w : List ℕ} {f : Front} → IsTerm d w f → FrontIn (2 * d) f
  term_in {w} {f} (one_factor x) = (factors w f x).front
  term_in (more_factor {t = v} {g = g} x y) = and_in (term_in x) (factors v g y)

  front_in : {w : List ℕ} {f : Front} → IsFront d w f → FrontIn (2 * d + 1) f
  front_in (one_term x) = front_more (omega arith) (term_in x)
  front_in (more_term x y) = or_in (front_in x) (joins (omega arith) (term_in y))

factor_in : (d : ℕ) (w : List ℕ) (f : Front) → IsFactor d w f → Joined (2 * d) f
factor_in zero w f (c_number {v = v} x) = contact_joined (2 * zero) v (number_fits x)
factor_in zero w f (n_number {v = v} x) = contactn_joined (2 * zero) v (number_fits x)
factor_in (suc d) w f (c_number {v = v} x) = contact_joined (2 * suc d) v (number_fits x)
factor_in (suc d) w f (n_number {v = v} x) = contactn_joined (2 * suc d) v (number_fits x)
factor_in (suc d) w f (in_round x) = joins (omega arith) (front_in d (factor_in d) x)

-- branches and rears, where ends with d brackets take at most 2 * d
module _ (d : ℕ) (ends : (w : List ℕ) (r : Rear) → IsEnd d w r → RearIn (2 * d) r) where
  branch_in : {w : List ℕ} {r : Rear} → IsBranch d w r → RearIn (2 * d) r
  branch_in {w} {r} (at_end x) = ends w r x
  branch_in (factor_and {s = u} {f = f} x y) = rear_and_lem (factor_in d u f x) (branch_in y)

  rear_in : {w : List ℕ} {r : Rear} → IsRear d w r → RearIn (2 * d + 1) r
  rear_in (one_branch x) = rear_more (omega arith) (branch_in x)
  rear_in (more_branch x y) = rear_or_lem (branch_in x) (rear_in y)

end_in : (d : ℕ) (w : List ℕ) (r : Rear) → IsEnd d w r → RearIn (2 * d) r
end_in zero w r (output_number {v = v} x y) = output_in (2 * zero) v (letter x) (number_fits y)
end_in (suc d) w r (output_number {v = v} x y) = output_in (2 * suc d) v (letter x) (number_fits y)
end_in (suc d) w r (in_square x) = rear_more (omega arith) (rear_in d (end_in d) x)

line_fits : {w : List ℕ} {g : Rung} → IsLine w g → T (rung_all input_fits output_fits g)
unfolding rung_all
line_fits (line {f = f} {r = r} xl xf xr) = yes_and (front_fits f) (rear_fits r) (front_in most_brackets (factor_in most_brackets) xf).fit (rear_in most_brackets (end_in most_brackets) xr).fit

-- at 15 brackets a front and a rear take at most 31 bytes
line_scratch : {w : List ℕ} {g : Rung} → IsLine w g → T (leb (rung_scratch g) scratch_bytes)
unfolding rung_scratch
line_scratch (line {f = f} {r = r} xl xf xr) =
    let a = (front_in most_brackets (factor_in most_brackets) xf).own in
    let b = (rear_in most_brackets (end_in most_brackets) xr).own in
    le→leb (max (front_scratch f) (rear_scratch r)) scratch_bytes (omega arith)

pub operands_fit : {s : List ℕ} {gs : Ladder} → IsText s gs → T (all (rung_all input_fits output_fits) gs)
operands_fit (one_line {g = g} x) = all_one (rung_all input_fits output_fits) g (line_fits x)
operands_fit (more_lines {g = g} {gs = gs} x y) = all_cons (rung_all input_fits output_fits) g gs (line_fits x) (operands_fit y)

text_scratch : {s : List ℕ} {gs : Ladder} → IsText s gs → T (all (λ g. leb (rung_scratch g) scratch_bytes) gs)
text_scratch (one_line {g = g} x) = all_one (λ g. leb (rung_scratch g) scratch_bytes) g (line_scratch x)
text_scratch (more_lines {g = g} {gs = gs} x y) = all_cons (λ g. leb (rung_scratch g) scratch_bytes) g gs (line_scratch x) (text_scratch y)

pub scratch_always : {s : List ℕ} {gs : Ladder} → IsText s gs → question9 gs ≡ none
unfolding question9 scratch_in_range
scratch_always x = passed_ask 9 _ (text_scratch x)

pub some_rung : {s : List ℕ} {gs : Ladder} → IsText s gs → 1 ≤ length gs
some_rung (one_line x) = omega arith
some_rung (more_lines x y) = omega arith

pub decoded_always : {s : List ℕ} {gs : Ladder} → IsText s gs → decode (encode gs) ≡ some gs
decoded_always {gs = gs} x = (decoded_exactly (encode gs) gs).1 (record { kept = refl; fits = operands_fit x })

pub kept_always : {s : List ℕ} {gs : Ladder} → IsText s gs → question4 (encode gs) ≡ none
kept_always {gs = gs} x = some_question4 (encode gs) (rw (ladder_is (encode gs) gs (decoded_always x)) (some_rung x))
