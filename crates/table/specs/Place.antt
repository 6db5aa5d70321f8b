-- Where the records stand in the bytes, one after another: the arithmetic of slots and places. Assumes nothing.
use Rattle.std.specs.Prelude.{ℕ, suc, ◌+◌, ◌/◌, ◌%◌, ◌<◌, ◌≡◌}
use Rattle.std.proofs.Common.{arith}
use Rattle.table.specs.Record.{record_length, place_of}

-- the next record starts where one ends
pub place_next : (s : ℕ) → place_of (suc s) ≡ record_length + place_of s
place_next s = omega arith

-- two records have no byte in common
pub places_apart :
    (a s : ℕ)
    → (a ≡ s → ⊥)
    → (i j : ℕ)
    → i < record_length
    → j < record_length
    → place_of a + j ≡ place_of s + i
    → ⊥
places_apart a s ne i j hi hj e = ne (omega arith)

-- and each byte is a byte of one
pub byte_place : (i : ℕ) → place_of (i / record_length) + i % record_length ≡ i
byte_place i = omega arith

pub byte_below : (i : ℕ) → i % record_length < record_length
byte_below i = omega arith
