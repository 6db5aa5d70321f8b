-- The lines that the bench program prints: their bytes, their laws, and the paper's listing.
pub mod Line
pub mod Decimal
pub mod Laws
pub mod Steps
pub mod Pen
pub mod Fits
pub mod Examples
