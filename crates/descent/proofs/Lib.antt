-- What the proofs of the functions cite.
mod Descending
