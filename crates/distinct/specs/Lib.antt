-- Keys told apart, near linear. Where to find what:
-- Distinct   what it is that the first n keys are distinct, 0 aside, by order's `distinct`; as a statement; by turns
-- Seat       how one key is seated among cells
-- Cells      why seating the keys one after another finds two that are equal
pub mod Distinct
pub mod Seat
pub mod Cells
