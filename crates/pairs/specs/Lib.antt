-- Laws of a list that another is laid over, for the proof of `fill` (Laid).
pub mod Laid
