-- Printed bytes. What each function puts: Put. Laws, which no contract cites: Laws.
pub mod Put
