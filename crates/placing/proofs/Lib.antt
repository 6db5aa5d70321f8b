-- What the proofs of the functions cite.
mod Hung
mod Placing
