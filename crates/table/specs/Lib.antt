-- The record and the table: where each field stands, and what a table of bytes means.
-- Definitions.
pub mod Record
pub mod Table
-- Which records stand in lent bytes, and where.
pub mod Place
pub mod Stands
-- Laws: bytes and the record they hold, the records of a table, the right size, and back again.
pub mod Span
pub mod Fields
pub mod Same
pub mod Records
pub mod Size
pub mod Fitting
pub mod RoundTrip
-- Laws: what a parent that was read tells.
pub mod Told
