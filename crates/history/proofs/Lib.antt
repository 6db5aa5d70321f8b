-- Promises has the promises, whole. The other files prove them: what holds in a cleared table and in one that a call
-- leaves (Holds); that every call keeps it (Kept); what a search, a check, and a question for what is stored give where
-- it holds (Searched, Nearest, Inventory).
pub mod Holds
pub mod Kept
pub mod Searched
pub mod Inventory
pub mod Nearest
pub mod Promises
