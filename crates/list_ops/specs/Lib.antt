-- The ops by number: Ops. The sort of an op's operand in code: Sorts. What it is stands in list_definitions, Instruction. Laws, which no contract cites: Laws.
pub mod Ops
pub mod Sorts
