-- Delete. What the paper says is in Delete. Waiting has the keys of all that leave, Call what the call does with the
-- card's slot, and Plan what it works out before it writes. The laws of each, and what the call promises, are in
-- proofs/.
pub mod Delete
pub mod Waiting
pub mod Call
pub mod Plan
