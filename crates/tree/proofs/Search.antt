-- Range search: its theorems.
pub mod Once
pub mod Wider
pub mod Finds
pub mod Needed
pub mod Fuel
pub mod Turn
