-- Well formed: the paper's words, clause by clause, their decision, and the counting form that the code takes.

-- the paper's words
pub mod WellFormed
pub mod OneDecided
pub mod Decided
pub mod Readable
-- the counting form
pub mod Counted
pub mod Passing
pub mod Standing
pub mod Counting
