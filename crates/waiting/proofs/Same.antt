-- The rows of keys as images of the lean work: its theorems (Finish), and what they stand on.
pub mod Held
pub mod Steps
pub mod Finish
