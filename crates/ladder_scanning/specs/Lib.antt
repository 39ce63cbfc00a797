-- One scan of a ladder, rung by rung. What its function promises: Scanned. Laws, which no contract cites: Laws.
pub mod Scanned
