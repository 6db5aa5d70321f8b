-- Placing one newcomer: the rule, what it keeps, and what its code asks of a table and leaves.
pub mod Place
pub mod Stored
pub mod RowsFit
pub mod Hangable
pub mod HangableFrom
pub mod Placeable
pub mod Changed
