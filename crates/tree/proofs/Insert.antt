-- Insertion: its theorems.
pub mod Path
pub mod Same
pub mod After
pub mod KeepsFormed
pub mod KeepsSound
pub mod First
pub mod Fuel
