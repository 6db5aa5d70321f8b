-- The leaner work of the nearest few, which comes to the same: its theorems.
pub mod Over
pub mod Leaner
pub mod Met
pub mod Same
