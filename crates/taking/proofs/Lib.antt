-- What the loops' proofs stand on.
pub mod NextTaken
