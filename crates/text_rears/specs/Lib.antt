-- Rears read from a text. The kinds of outputs by their letters: Letters.
pub mod Letters
