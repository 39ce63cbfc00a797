-- Where the rungs of a ladder stand in a list with the given code for each rung, and where a run of a rung leads. Assumes nothing.
use Rattle.std.specs.Prelude.{◌≡◌, take}
use Rattle.std.proofs.Math.Path.{refl, sym}
use Rattle.std.proofs.Common.{ap, ◌∙◌, arith, take-append-drop}
use mathlib.Core.List.{List, [], ◌∷◌, ◌++◌, flat_map, append_assoc}
use Prim.Native.Nat.{ℕ, zero, suc, ◌+◌, ◌≤◌, ◌<◌}
use Rattle.std.proofs.Math.ListN.{length}
use Rattle.rungs.specs.Records.{lay, search}
use Rattle.rungs.proofs.Laws.Layout.{sizes, sizes_snoc, start_first, start_only}
use Rattle.ladder_definitions.specs.Tree.{Rung, Ladder, labels}
use Rattle.ladder_definitions.specs.Meaning.{Run, onward, jumped, from, follow}
use Rattle.list_definitions.specs.Instruction.{Instr}
use Rattle.list_definitions.specs.Machine.{InstructionList}
use Rattle.translation_definitions.proofs.Laws.Exec.{entered}

abbrev pub label_of : Rung → ℕ
label_of g = g.label

abbrev pub size_by : (Rung → List Instr) → Rung → ℕ
size_by code g = length (code g)

-- the list whose rungs have the given code
unfoldable pub list_of : (Rung → List Instr) → Ladder → InstructionList
list_of code gs = record { code = flat_map code gs; records = lay label_of (size_by code) 0 gs }

module _ (code : Rung → List Instr) where
  -- the first instruction of the rung with label l
  unfoldable pub first : Ladder → ℕ → ℕ
  first gs l = sizes (size_by code) (take (search l (labels gs)) gs)

  -- the index that follows a run of a rung whose code ends at i
  unfoldable pub follow_index : Ladder → ℕ → Run → ℕ
  follow_index gs i (onward s) = i
  follow_index gs i (jumped l s) = first gs l

  -- the rungs that follow, and their first instruction
  pub following : (gs pre : Ladder) (g : Rung) (rest : Ladder) (x : Run) → gs ≡ pre ++ g ∷ rest
      → (pre' : Ladder) × (gs ≡ pre' ++ follow gs rest x) × (follow_index gs (sizes (size_by code) pre + length (code g)) x ≡ sizes (size_by code) pre')
  unfolding follow follow_index from first
  following gs pre g rest (onward s) e = (pre ++ g ∷ [], e ∙ sym (append_assoc pre (g ∷ []) rest), sym (sizes_snoc (size_by code) pre g))
  following gs pre g rest (jumped l s) e = (take (search l (labels gs)) gs, sym (take-append-drop (search l (labels gs)) gs), refl)

  -- a rung is entered once, at its first instruction
  pub entered_once : (gs pre : Ladder) (g : Rung) (post : Ladder) (n : ℕ) → gs ≡ pre ++ g ∷ post → 1 ≤ n → n ≤ length (code g)
      → entered (list_of code gs) (sizes (size_by code) pre) n ≡ 1
  unfolding list_of entered
  entered_once gs pre g post zero e lo hi = absurd (omega arith)
  entered_once gs pre g post (suc n) e lo hi =
      rw (start_first label_of (size_by code) gs pre g post e) (ap (λ (m : ℕ). 1 + m) (quiet (suc (sizes (size_by code) pre)) n (omega arith) (omega arith)))
    where
      quiet : (pc m : ℕ) → sizes (size_by code) pre < pc → pc + m ≤ sizes (size_by code) pre + length (code g) → entered (list_of code gs) pc m ≡ 0
      quiet pc zero l h = refl
      quiet pc (suc m) l h = rw (start_only label_of (size_by code) gs pre g post e pc l (omega arith)) (ap (λ (i : ℕ). 0 + i) (quiet (suc pc) m (omega arith) (omega arith)))
