-- "Refusal numbers, tested in this order": each number has its name here and nowhere else.
use Rattle.std.specs.Prelude.{ℕ, Bool, List, [], ◌∷◌}
use Rattle.places.specs.Choice.{pick}

-- "0 means done"
abbrev pub done : ℕ
done = 0

-- the table's length isn't a multiple of 64 from 64 to 65,536
abbrev pub SIZE : ℕ
SIZE = 1

-- not well formed
abbrev pub TABLE : ℕ
TABLE = 2

-- card 0; arity not 1 to 8; kind not 1 or 2, or signature not 32 bytes
abbrev pub ARGUMENT : ℕ
ARGUMENT = 3

-- used table of the other kind
abbrev pub KIND : ℕ
KIND = 4

-- card already stored
abbrev pub TWICE : ℕ
TWICE = 5

-- card not stored
abbrev pub ABSENT : ℕ
ABSENT = 6

-- no free record
abbrev pub FULL : ℕ
FULL = 7

-- a fresh timestamp would pass 4,294,967,295
abbrev pub CLOCK : ℕ
CLOCK = 8

-- the list has fewer entries than used records
abbrev pub SHORT : ℕ
SHORT = 9

-- well formed, not sound
abbrev pub LOOSE : ℕ
LOOSE = 10

-- a refusal: when it is given, and its number
abbrev pub Test : Type 0
Test = Bool × ℕ

-- the number of the first test that holds, 0 if none does
abbrev pub first_of : List Test → ℕ
first_of [] = done
first_of (t ∷ ts) = pick t.0 t.1 (first_of ts)
