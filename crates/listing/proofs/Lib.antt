-- SixRows computes the listing on rows of records; Edges proves P1 to P13 by it, and that the listing is a history
-- which the main theorem speaks of.
pub mod SixRows
pub mod Edges
