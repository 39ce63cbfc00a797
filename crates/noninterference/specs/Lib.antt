-- Variables that no contact reads cannot steer a ladder. Definitions: Contacts, Noninterference. What is proved of them: Theorems. Worked ladders: Examples.
-- Laws, which no contract cites: Laws.
pub mod Contacts
pub mod Noninterference
