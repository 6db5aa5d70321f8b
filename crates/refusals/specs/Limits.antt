-- The paper's limits: each number has its name here, and in the source's limit.rt, and nowhere else.
use Rattle.std.specs.Prelude.{ℕ, Bool, ◌&&◌, leb}

-- "A table has 1 to 1,024 records"
abbrev pub most_records : ℕ
most_records = 1024

-- "the k most similar failures, k from 1 to 64" (02, #101)
abbrev pub most_nearest : ℕ
most_nearest = 64

-- "child count, 0 to 8"
abbrev pub most_children : ℕ
most_children = 8

-- "timestamp, 1 to 4,294,967,295"
abbrev pub last_timestamp : ℕ
last_timestamp = 4294967295

-- a signature takes 32 bytes
abbrev pub signature_length : ℕ
signature_length = 32

-- "The arity, 1 to 8"
abbrev pub known_arity : ℕ → Bool
known_arity arity = leb 1 arity && leb arity most_children
