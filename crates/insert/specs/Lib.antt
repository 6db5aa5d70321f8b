-- Insert: its outcome, and what it promises.
pub mod Insert
pub mod Groups
pub mod Accepted
pub mod Promises
