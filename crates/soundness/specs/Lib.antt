-- Soundness: the paper's words as a test, what the check call gives, and the route that the code takes.
pub mod Soundness
pub mod Decided
pub mod Climb
pub mod Route
pub mod HoldsCard
pub mod Check
