-- Delete's theorems: the call's refusals, one by one (Call), the laws of the slots that wait (Waiting), what the rule
-- leaves (Deleted, Fits), what the call works out before it writes, of the records and of the bytes (Stays, Plan), and
-- what the call promises (Promises).
pub mod Waiting
pub mod Deleted
pub mod Fits
pub mod Call
pub mod Promises
pub mod Stays
pub mod Plan
