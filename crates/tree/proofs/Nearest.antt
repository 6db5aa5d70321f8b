-- The nearest few cards: their theorems.
pub mod Order
pub mod Wait
pub mod Once
pub mod Fuel
pub mod Lower
pub mod Finds
pub mod Lean
