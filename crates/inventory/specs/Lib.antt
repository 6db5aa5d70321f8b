-- What is stored: all cards in slot order, and what one was stored with. The outcomes (Cards, Card), what they promise
-- (Promises), and the laws that the code's proofs cite: refusals (Tests), the list (Listing), the row (Row).
pub mod Cards
pub mod Card
pub mod Tests
pub mod Listing
pub mod Row
pub mod Promises
