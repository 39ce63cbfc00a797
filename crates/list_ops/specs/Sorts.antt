-- The sort of each case of the enum OperandSort, and no sort for a number that no op has. Assumes nothing.
use Rattle.std.specs.Prelude.{ℕ, Option, Some, None, Bool, ◌&&◌, leb}
use Rattle.list_definitions.specs.Instruction.{OperandSort, table_sort, nothing_sort, instruction_sort, timer_sort, no_sort}
use Rattle.list_ops.specs.declared.OperandSort.{OperandSort as OperandSortCase}
use Rattle.list_ops.specs.declared.OperandSort.TheVariants.{Table, Nothing, Instruction, Timer}

-- the sort of each case of the enum OperandSort, and no sort
unfoldable pub sort_in : Option OperandSortCase → OperandSort
sort_in (Some Table) = table_sort
sort_in (Some Nothing) = nothing_sort
sort_in (Some Instruction) = instruction_sort
sort_in (Some Timer) = timer_sort
sort_in None = no_sort

-- whether a number is from one to another
unfoldable pub within : ℕ → ℕ → ℕ → Bool
within a b k = leb a k && leb k b
