-- Loop: what the loops of the pass keep from turn to turn.
pub mod Children
pub mod Found
pub mod Seen
pub mod Turn
