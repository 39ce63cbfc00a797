-- The text of a list, in names of the park's own make. Document 02, Req 05. Definitions: Form, which decides; Reader, and the call: ReadList. Worked texts:
-- Examples. What is proved of the definitions: Theorems. Laws, which no contract cites: Laws.
pub mod Form
pub mod Reader
pub mod ReadList
