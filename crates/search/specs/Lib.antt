-- Range search: its outcome, what it promises, and the laws that its code's proofs cite.
pub mod Search
pub mod Promises
pub mod Laws
pub mod Tests
pub mod Listing
