-- "The bench program": what it prints, as bytes, and a line laid into lent bytes. A number more in a line is one more
-- in the list of `line_of`.
use Rattle.std.specs.Prelude.{ℕ, zero, suc, ◌+◌, ◌/◌, ◌%◌, Option, Some, None, List, [], ◌∷◌, ◌++◌, leb, ltb, length}
use Rattle.std.proofs.lemmas.List.Edits.{sets}
use Rattle.places.specs.Choice.{pick}

-- ---- bytes, by their ASCII numbers

abbrev pub space : ℕ
space = 32

abbrev pub newline : ℕ
newline = 10

-- "`cut`"
abbrev pub cut_word : List ℕ
cut_word = 99 ∷ 117 ∷ 116 ∷ []

-- the digit d, below 10
abbrev pub digit : ℕ → ℕ
digit d = 48 + d

-- ---- numbers

-- n's last digits, the most significant first, in at most so many turns of one digit each
unfoldable pub decimal_within : ℕ → ℕ → List ℕ
decimal_within zero n = []
decimal_within (suc most) n = pick (ltb n 10) (digit n ∷ []) (decimal_within most (n / 10) ++ (digit (n % 10) ∷ []))

-- n in decimal, without leading zeros. No number has more digits than one more than itself, so no turn is missing:
-- digits n ≡ digit n ∷ [] below 10, and else digits n ≡ digits (n / 10) ++ (digit (n % 10) ∷ []) (specs/Decimal)
unfoldable pub decimal : ℕ → List ℕ
decimal n = decimal_within (suc n) n

-- these numbers, each behind one space
unfoldable pub row_of : List ℕ → List ℕ
row_of [] = []
row_of (n ∷ ns) = (space ∷ decimal n) ++ row_of ns

-- ---- lines

-- "command number from 1, refusal, distance count .., cards found .., then the cards, one space between"
unfoldable pub line_of : ℕ → ℕ → ℕ → ℕ → List ℕ → List ℕ
line_of number refusal count found cards =
    decimal number ++ row_of (refusal ∷ count ∷ found ∷ cards) ++ (newline ∷ [])

-- "Left-over bytes at the end print a last line, `cut` and their number"
unfoldable pub cut_of : ℕ → List ℕ
cut_of left = cut_word ++ row_of (left ∷ []) ++ (newline ∷ [])

-- ---- a line in lent bytes

-- how many bytes the line has, and the bytes as they are then
pub record Laid : Type 0 where
  pub size : ℕ
  pub bytes : List ℕ

abbrev pub laid : ℕ → List ℕ → Laid
laid size bytes = record { size = size; bytes = bytes }

-- if it fits, it is laid from the start, and later bytes stay; else nothing is written, and 0 answered
unfoldable pub line_into : List ℕ → List ℕ → Laid
line_into line room = pick (leb (length line) (length room)) (laid (length line) (sets room 0 line)) (laid 0 room)

-- the same, told as an option: how many bytes the line has, if it fits
pub record Fitted : Type 0 where
  pub size : Option ℕ
  pub bytes : List ℕ

abbrev pub fitted : Option ℕ → List ℕ → Fitted
fitted size bytes = record { size = size; bytes = bytes }

-- if it fits, it is laid from the start, and later bytes stay; else nothing is written, and None answered
unfoldable pub fitted_into : List ℕ → List ℕ → Fitted
fitted_into line room =
    pick (leb (length line) (length room)) (fitted (Some (length line)) (sets room 0 line)) (fitted None room)
