-- The enums Kind and KindSort, and what a kind's operand names. Document 01, "The kept ladder"; document 02, Req 06. Assumes nothing.
use Rattle.std.specs.Prelude.{ℕ, Bool, true, false, Option, Some, None}
use Rattle.ladder_definitions.specs.Kept.{KindSort, contact_sort, joined_sort, output_sort, rear_and_sort, rear_or_sort, no_sort, variable_name, label_name, timer_name, no_name, name_sort}
use Rattle.ladder_kinds.specs.declared.Kind.{Kind}
use Rattle.ladder_kinds.specs.declared.Kind.TheVariants as the_kind
use Rattle.ladder_kinds.specs.declared.KindSort.{KindSort as KindSortCase}
use Rattle.ladder_kinds.specs.declared.KindSort.TheVariants.{Contact, Joined, Output, RearAnd, RearOr}

-- the number of each case of the enum Kind
unfoldable pub kind_number : Kind → ℕ
kind_number the_kind.Contact = 1
kind_number the_kind.NegatedContact = 2
kind_number the_kind.FrontAnd = 3
kind_number the_kind.FrontOr = 4
kind_number the_kind.Coil = 5
kind_number the_kind.NegatedCoil = 6
kind_number the_kind.Jump = 7
kind_number the_kind.NegatedJump = 8
kind_number the_kind.RearAnd = 9
kind_number the_kind.RearOr = 10
kind_number the_kind.SetCoil = 11
kind_number the_kind.ResetCoil = 12
kind_number the_kind.Timer = 13

-- the sort of each case of the enum KindSort
unfoldable pub case_sort : KindSortCase → KindSort
case_sort Contact = contact_sort
case_sort Joined = joined_sort
case_sort Output = output_sort
case_sort RearAnd = rear_and_sort
case_sort RearOr = rear_or_sort

-- the sort of a kind, or none
unfoldable pub sort_in : Option KindSortCase → KindSort
sort_in (Some sort) = case_sort sort
sort_in None = no_sort

unfoldable pub names_variable : ℕ → Bool
names_variable kind = elim (name_sort kind) [ variable_name ↦ true | label_name ↦ false | timer_name ↦ false | no_name ↦ false ]

unfoldable pub names_label : ℕ → Bool
names_label kind = elim (name_sort kind) [ variable_name ↦ false | label_name ↦ true | timer_name ↦ false | no_name ↦ false ]

unfoldable pub names_timer : ℕ → Bool
names_timer kind = elim (name_sort kind) [ variable_name ↦ false | label_name ↦ false | timer_name ↦ true | no_name ↦ false ]
