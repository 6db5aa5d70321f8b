-- A number in a row of bytes, low byte first, at any width ("Numbers are unsigned, low byte first").
-- The first byte stands at `at` and not at `at + 0`, so that each definition computes to what straight-line code
-- leaves: the open forms, of which `open_number_lem` and `open_write` say, at every width, that they are the shut ones.
use Rattle.std.specs.Prelude.{ℕ, zero, suc, ◌+◌, ◌*◌, ◌/◌, ◌%◌, ◌≡◌, refl, List, [], ◌∷◌, get_or, set}

-- ---- reading

-- the number in the n bytes from at + k on
abbrev pub number_from : List ℕ → ℕ → ℕ → ℕ → ℕ
number_from l at k zero = 0
number_from l at k (suc n) = get_or l (at + k) 0 + 256 * number_from l at (suc k) n

-- the number in the n bytes from `at` on, open to the prover's search
abbrev pub open_number : ℕ → List ℕ → ℕ → ℕ
open_number zero l at = 0
open_number (suc n) l at = get_or l at 0 + 256 * number_from l at 1 n

-- the number in the n bytes from `at` on
unfoldable pub number_at : ℕ → List ℕ → ℕ → ℕ
number_at n l at = open_number n l at

pub open_number_lem : (n : ℕ) (l : List ℕ) (at : ℕ) → open_number n l at ≡ number_at n l at
unfolding number_at
open_number_lem n l at = refl

-- ---- writing

-- the n bytes of v, lowest first
abbrev pub digits : ℕ → ℕ → List ℕ
digits zero v = []
digits (suc n) v = v % 256 ∷ digits n (v / 256)

-- l with the bytes bs from at + k on
abbrev pub written_from : List ℕ → ℕ → ℕ → List ℕ → List ℕ
written_from l at k [] = l
written_from l at k (b ∷ bs) = written_from (set l (at + k) b) at (suc k) bs

-- l with the bytes bs from `at` on
abbrev pub written : List ℕ → ℕ → List ℕ → List ℕ
written l at [] = l
written l at (b ∷ bs) = written_from (set l at b) at 1 bs

-- l with v in the n bytes from `at` on
unfoldable pub with_number : ℕ → List ℕ → ℕ → ℕ → List ℕ
with_number n l at v = written l at (digits n v)

pub open_write : (n : ℕ) (l : List ℕ) (at v : ℕ) → written l at (digits n v) ≡ with_number n l at v
unfolding with_number
open_write n l at v = refl
