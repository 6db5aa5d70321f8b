-- Removal: its theorems.
pub mod After
pub mod KeepsFormed
pub mod KeepsSound
pub mod Count
