-- Slots oldest first, in the paper's words and by keys.
pub mod Age
pub mod Key
