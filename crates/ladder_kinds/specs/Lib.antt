-- The sorts of kinds in code: Kinds. What a kind's sort is stands in ladder_definitions, Kept. Laws, which no contract cites: Laws.
pub mod Kinds
