-- What a card brings, and what it changes in one record.
pub mod Newcomer
pub mod Kept
