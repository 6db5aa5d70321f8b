-- The pass over a table's records: what one number tells of four child slots, what is asked of a record's fields, and
-- what the loops keep.
pub mod Floors
pub mod Fields
pub mod Loop
