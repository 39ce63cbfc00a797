-- Ladder scan over a lent row of rung records. What its functions promise each other: Parts. The promise of the call is the definition in
-- ladder_definitions, LadderScan.
pub mod Parts
