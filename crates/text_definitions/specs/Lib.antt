-- The call Read: its definition, Read, and what is proved of it, Theorems. The grammar stands in text_grammar. Laws, which no contract cites: Laws.
pub mod Read
