-- The nearest few cards: the call's outcome, and its pairs as keys. What it promises is in proofs/.
pub mod Nearest
pub mod Keys
pub mod Laid
