-- What the proofs of the functions stand on, over plain lists.
mod Slipping
mod Sorting
mod Straightening
mod Look
