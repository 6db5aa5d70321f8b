-- Loop: what the walk of a range search is held to, in the order in which the code works.
pub mod State
