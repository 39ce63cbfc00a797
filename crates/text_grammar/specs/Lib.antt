-- The text of a ladder. Definitions: Grammar and Place, which decide; Reader, Questions. Worked texts: Examples. What is proved of the definitions: Theorems.
-- What the functions answer: Numbers. Laws, which no contract cites: Laws.
pub mod Grammar
pub mod Place
pub mod Reader
pub mod Questions
pub mod Numbers
