-- The laws that the proof of the code cites (Laws, Tests, Ends), and what the call promises (Promises).
pub mod Laws
pub mod Tests
pub mod Promises
pub mod Ends
