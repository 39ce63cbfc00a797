-- `list_instructions::carry_out` meets its contract: an arm for each op, and the return before them for a word that holds no instruction. Assumes nothing.
use mathlib.Core.Path.{refl, sym, ◌∙◌}
use mathlib.Core.Bool.{xor}
use Rattle.table.proofs.Laws.Moved.{sum_few, sum_if_few}
use native.Mathlib.Omega.{arith}
use Rattle.list_definitions.specs.Instruction.{LD, LDN, ST, STN, AND, ANDN, OR, ORN, XOR, XORN, JMP, JMPC, JMPCN, S, R, TON, ops}
use Rattle.list_definitions.specs.Machine.{does}
use Rattle.list_ops.specs.Ops.{op_number}
use Rattle.list_ops.proofs.Laws.Ops.{none_numbered}
use Rattle.list_instructions.proofs.Arms.{op_told, arm, arm_keeps, ran_few, arm_not, arm_other}
use Rattle.list_instructions.proofs.carry_out.Goals as goal

pub returns-in-Ld : goal.returns-in-Ld
unfolding op_number ops does
returns-in-Ld c = arm_keeps (op_told c.of.ensures c.in-Some.is c.in-Ld.is) LD refl c.after-in-Ld.ensures (λ pc q. rw (c.value.ensures, q))

pub returns-in-Ldn : goal.returns-in-Ldn
unfolding op_number ops does
returns-in-Ldn c = arm_keeps (op_told c.of.ensures c.in-Some.is c.in-Ldn.is) LDN refl c.after-in-Ldn.ensures (λ pc q. rw (c.value-in-Ldn.ensures, q))

pub returns-in-St : goal.returns-in-St
unfolding op_number ops does
returns-in-St c = let wrote = c.write.ensures.changed in arm (op_told c.of.ensures c.in-Some.is c.in-St.is) ST refl c.after-in-St.ensures wrote (sum_few _ _ _ _ wrote) (λ pc q. rw q refl)

pub returns-in-Stn : goal.returns-in-Stn
unfolding op_number ops does
returns-in-Stn c = let wrote = c.write-in-Stn.ensures.changed in arm (op_told c.of.ensures c.in-Some.is c.in-Stn.is) STN refl c.after-in-Stn.ensures wrote (sum_few _ _ _ _ wrote) (λ pc q. rw q refl)

pub returns-in-And : goal.returns-in-And
unfolding op_number ops does
returns-in-And c = arm_keeps (op_told c.of.ensures c.in-Some.is c.in-And.is) AND refl c.after-in-And.ensures (λ pc q. rw (c.value-in-And.ensures, q))

pub returns-in-Andn : goal.returns-in-Andn
unfolding op_number ops does
returns-in-Andn c = arm_keeps (op_told c.of.ensures c.in-Some.is c.in-Andn.is) ANDN refl c.after-in-Andn.ensures (λ pc q. rw (c.value-in-Andn.ensures, q))

pub returns-in-Or : goal.returns-in-Or
unfolding op_number ops does
returns-in-Or c = arm_keeps (op_told c.of.ensures c.in-Some.is c.in-Or.is) OR refl c.after-in-Or.ensures (λ pc q. rw (c.value-in-Or.ensures, q))

pub returns-in-Orn : goal.returns-in-Orn
unfolding op_number ops does
returns-in-Orn c = arm_keeps (op_told c.of.ensures c.in-Some.is c.in-Orn.is) ORN refl c.after-in-Orn.ensures (λ pc q. rw (c.value-in-Orn.ensures, q))

pub returns-in-Xor : goal.returns-in-Xor
unfolding op_number ops does xor
returns-in-Xor c = arm_keeps (op_told c.of.ensures c.in-Some.is c.in-Xor.is) XOR refl c.after-in-Xor.ensures (λ pc q. rw (c.value-in-Xor.ensures, q))

pub returns-in-Xorn : goal.returns-in-Xorn
unfolding op_number ops does xor
returns-in-Xorn c = arm_keeps (op_told c.of.ensures c.in-Some.is c.in-Xorn.is) XORN refl c.after-in-Xorn.ensures (λ pc q. rw (c.value-in-Xorn.ensures, q))

pub returns-in-Not : goal.returns-in-Not
unfolding op_number
returns-in-Not c = arm_not (op_told c.of.ensures c.in-Some.is c.in-Not.is) c.after-in-Not.ensures

pub returns-in-Jmp : goal.returns-in-Jmp
unfolding op_number ops does
returns-in-Jmp c = arm_keeps (op_told c.of.ensures c.in-Some.is c.in-Jmp.is) JMP refl c.after-in-Jmp.ensures (λ pc q. refl)

pub returns-in-Jmpc : goal.returns-in-Jmpc
unfolding op_number ops does
returns-in-Jmpc c = arm_keeps (op_told c.of.ensures c.in-Some.is c.in-Jmpc.is) JMPC refl c.after-in-Jmpc.ensures (λ pc q. rw (c.choose.ensures, q))

pub returns-in-Jmpcn : goal.returns-in-Jmpcn
unfolding op_number ops does
returns-in-Jmpcn c = arm_keeps (op_told c.of.ensures c.in-Some.is c.in-Jmpcn.is) JMPCN refl c.after-in-Jmpcn.ensures (λ pc q. rw (c.choose-in-Jmpcn.ensures, q))

pub returns-in-S : goal.returns-in-S
unfolding op_number ops does
returns-in-S c = let wrote = c.write_if.ensures.changed in arm (op_told c.of.ensures c.in-Some.is c.in-S.is) S refl c.after-in-S.ensures wrote (sum_if_few _ _ _ _ _ wrote) (λ pc q. rw q refl)

pub returns-in-R : goal.returns-in-R
unfolding op_number ops does
returns-in-R c = let wrote = c.write_if-in-R.ensures.changed in arm (op_told c.of.ensures c.in-Some.is c.in-R.is) R refl c.after-in-R.ensures wrote (sum_if_few _ _ _ _ _ wrote) (λ pc q. rw q refl)

pub returns-in-Ton : goal.returns-in-Ton
unfolding op_number ops does
returns-in-Ton c = let ran = c.run_timer.ensures in arm (op_told c.of.ensures c.in-Some.is c.in-Ton.is) TON refl c.after-in-Ton.ensures ran (ran_few _ _ _ _ ran) (λ pc q. rw q refl)

pub returns-in_default : goal.returns-in_default
unfolding ops
returns-in_default c = arm_other (λ l h. let past = none_numbered (sym c.of.ensures ∙ c.in_default.is) l in omega arith)
