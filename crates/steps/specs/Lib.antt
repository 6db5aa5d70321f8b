-- The steps of a range search: what is asked of one record, in the paper's words, and, in Loop, what the loops over a
-- record's children are held to.
pub mod Step
pub mod Loop
