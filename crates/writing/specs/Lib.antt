-- What is written: a field, a record made free, a table cleared; in the bytes and in the records.
-- Definitions.
pub mod Put
pub mod Clear
-- Laws: the bytes that a write changes, what it makes of one record, and each write's own law.
pub mod Run
pub mod Became
pub mod Laws
