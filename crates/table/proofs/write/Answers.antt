-- `table::write` meets its contract: one byte is set, and none past the end, and the sum grows where that turned a variable over.
use Rattle.std.proofs.Common.{◌≡◌, ℕ, Bool, true, false, refl}
use mir.Val.{bool_byte}
use lib.Seq.{set_out}
use Rattle.questions.specs.Tests.{bit}
use Rattle.table.specs.State.{written_at, write}
use Rattle.table.proofs.write.Goals as goal

as_bit : {n : ℕ} (b : Bool) → n ≡ bool_byte b → n ≡ bit b
as_bit true e = e
as_bit false e = e

pub returns-then-index-table : goal.returns-then-index-table
unfolding write written_at
returns-then-index-table c =
    let turned : c.from.result ≡ bit c.turns.result = as_bit c.turns.result c.from.ensures in
    let b : c.from-then-index-table.result ≡ bit c.args.b = as_bit c.args.b c.from-then-index-table.ensures in
    record { same = λ timers now. rw (turned, b, c.turns.ensures) refl }

pub returns-else-index-table : goal.returns-else-index-table
unfolding write written_at
returns-else-index-table c =
    let turned : c.from.result ≡ bit c.turns.result = as_bit c.turns.result c.from.ensures in
    record { same = λ timers now. rw (turned, c.turns.ensures, set_out _ _ _ c.if-index-table.false) refl }
