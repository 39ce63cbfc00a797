-- What the functions of this crate promise to each other. Nothing here is a sentence of document 01. Assumes nothing.
use Rattle.std.specs.Prelude.{ℕ, ◌+◌, ◌≤◌, max, ◌≡◌, List, map, length, get_or, set, Option, MatchOption}
use Rattle.std.proofs.lemmas.List.Edits.{sets}
use Rattle.table.specs.State.{scratch_index}
use Rattle.rungs.specs.Words.{word}
use Rattle.rungs.specs.Records.{search}
use Rattle.ladder_definitions.specs.Tree.{Front, Output, Rear, Rung, output_names, number}
use Rattle.ladder_definitions.specs.Kept.{output_kind, output_sort, kind_sort, front_words, rear_words, rung_words}
use Rattle.ladder_definitions.specs.Held.{FrontAt, RearAt, RungAt}
use Rattle.ladder_kinds.specs.Kinds.{kind_number}
use Rattle.ladder_kinds.specs.declared.Kind.{Kind}
use Rattle.list_ops.specs.Ops.{op_number}
use Rattle.list_ops.specs.declared.Op.{Op}
use Rattle.list_definitions.specs.Instruction.{Instr, op_of, instr_word}
use Rattle.translation_definitions.specs.Translate.{F, join, output_code, R, rung_code, code_bound}
use Rattle.translation_code.specs.declared.Positions.{Positions}

-- some instructions put from `put` on, for a part of n words from `at` on
pub record CodePut (at n put : ℕ) (instrs : List Instr) (r : Positions) (e x : List ℕ) : Type 0 where
  pub next : r.next ≡ at + n
  pub end : r.put ≡ put + length instrs
  pub wrote : x ≡ sets e put (map instr_word instrs)

-- whatever the words hold, a part ends within them and puts no more instructions than its words' bound, and `more` besides
pub record Within (ws : List ℕ) (at more put : ℕ) (r : Positions) : Type 0 where
  pub onward : at ≤ r.next
  pub inside : r.next ≤ max at (length ws)
  pub few : r.put + code_bound at ≤ put + code_bound r.next + more
  pub on : put ≤ r.put

pub record OnePut (at put op operand : ℕ) (r : Positions) (e x : List ℕ) : Type 0 where
  pub next : r.next ≡ at + 1
  pub end : r.put ≡ put + 1
  pub wrote : x ≡ set e put (word op operand)

pub record FrontPut (vars : ℕ) (ws : List ℕ) (at depth put : ℕ) (r : Positions) (e x : List ℕ) : Type 0 where
  pub within : Within ws at 0 put r
  pub done : (f : Front) → FrontAt ws at f → CodePut at (length (front_words f)) put (F vars f depth) r e x

-- the numbers of an op and of that with the negated operand
pub record Joins (op opn : ℕ) (make maken : ℕ → Instr) : Type 0 where
  pub plain : (v : ℕ) → instr_word (make v) ≡ word op v
  pub negated : (v : ℕ) → instr_word (maken v) ≡ word opn v

pub record JoinPut (vars : ℕ) (ws : List ℕ) (at op opn depth put : ℕ) (r : Positions) (e x : List ℕ) : Type 0 where
  pub within : Within ws at 2 put r
  pub done : (f : Front) → FrontAt ws at f → (make maken : ℕ → Instr) → Joins op opn make maken
      → CodePut at (length (front_words f)) put (join make maken f (F vars f (depth + 1)) (scratch_index vars depth)) r e x

-- where the rung with label l begins, by the labels and their starts
unfoldable pub start_in : List ℕ → List ℕ → ℕ → ℕ
start_in ls starts l = get_or starts (search l ls) 0

-- the op of an output's instruction, for the outputs of a kind
pub record OpOf (kind op : ℕ) : Type 0 where
  pub sort : kind_sort kind ≡ output_sort
  pub same : (o : Output) → kind ≡ output_kind o → (start : ℕ → ℕ) → op ≡ op_of (output_code start o)

-- none for a kind that no output has
abbrev pub OutputOp : Kind → Option Op → Type 0
OutputOp kind r = MatchOption r (kind_sort (kind_number kind) ≡ output_sort → ⊥) (λ op. OpOf (kind_number kind) (op_number op))

-- the word of an output's instruction, for the output whose word has the kind and the operand
pub record InstructionOf (kind operand : ℕ) (ls starts : List ℕ) (instruction : ℕ) : Type 0 where
  pub sort : kind_sort kind ≡ output_sort
  pub same : (o : Output) → kind ≡ output_kind o → operand ≡ number (output_names o) → instruction ≡ instr_word (output_code (start_in ls starts) o)

-- none for another kind
abbrev pub OutputInstruction : Kind → ℕ → List ℕ → List ℕ → Option ℕ → Type 0
OutputInstruction kind operand ls starts r = MatchOption r (kind_sort (kind_number kind) ≡ output_sort → ⊥) (λ i. InstructionOf (kind_number kind) operand ls starts i)

pub record RearPut (vars : ℕ) (ws : List ℕ) (at depth : ℕ) (ls starts : List ℕ) (put : ℕ) (r : Positions) (e x : List ℕ) : Type 0 where
  pub within : Within ws at 0 put r
  pub done : (k : Rear) → RearAt ws at k → CodePut at (length (rear_words k)) put (R vars (start_in ls starts) k depth) r e x

pub record RungPut (vars : ℕ) (ws : List ℕ) (at : ℕ) (ls starts : List ℕ) (put : ℕ) (r : Positions) (e x : List ℕ) : Type 0 where
  pub within : Within ws at 0 put r
  pub done : (g : Rung) → RungAt ws at g → CodePut at (length (rung_words g)) put (rung_code vars (start_in ls starts) g) r e x
