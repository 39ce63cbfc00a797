-- List scan and Listing over a lent row of rung records. What their functions promise each other: Parts. The promises of the calls are the
-- definitions in list_definitions, ListScan and Listing.
pub mod Parts
