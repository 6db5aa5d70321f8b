-- Where to find what:
-- History    what a history is: the calls, what each makes of table and stored cards, and what it reports
-- Demands    what is asked: of a table after a history, of an accepted search, of a refusal
-- Nearest    what is asked of the nearest few; Inventory what is asked of the calls that tell what is stored
-- Longer     free records behind a table
-- Refused    each call's two cases; Complete what check's answer means of any table
-- The promises, whole, are in proofs/Promises: demand 1 for each call, demand 3 over histories, and that contracts fix
-- outcomes. The paper's listing and P1 to P13 are in the crate `listing`.
pub mod History
pub mod Demands
pub mod Refused
pub mod Longer
pub mod Complete
pub mod Nearest
pub mod Inventory
