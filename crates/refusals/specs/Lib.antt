-- The paper's limits and refusal numbers, the order in which they are tested, and what a refused call leaves.
pub mod Limits
pub mod Refusal
pub mod First
pub mod Outcome
pub mod Told
