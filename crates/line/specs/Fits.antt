-- How long a line is at most: a program that lends this room for as many cards as it has always gets its lines whole.
-- Assumes nothing.
use Rattle.std.specs.Prelude.{ℕ, suc, ◌+◌, ◌*◌, ◌^◌, ◌≤◌, ◌<◌, List, [], ◌∷◌, ◌++◌, length, get_or}
use Rattle.std.proofs.Common.{arith, length-append}
use Rattle.line.specs.Line.{space, newline, decimal, row_of, line_of, cut_of}
use Rattle.line.specs.Decimal.{few_digits_8, few_digits_32, few_digits_64}

-- a number of 32 bits takes a space and ten digits; the command number takes twenty, the refusal three
abbrev pub room_for : ℕ → ℕ
room_for cards = 47 + 11 * cards

-- all of these are numbers of 32 bits
abbrev pub Cards : List ℕ → Type 0
Cards ns = (i : ℕ) → get_or ns i 0 < 2 ^ 32

pub row_fits : (ns : List ℕ) → Cards ns → length (row_of ns) ≤ 11 * length ns
unfolding row_of
row_fits [] h = omega arith
row_fits (n ∷ ns) h =
    omega (
      arith,
      length-append (space ∷ decimal n) (row_of ns),
      few_digits_32 n (h 0),
      row_fits ns (λ i. h (suc i)),
    )

pub line_fits :
    (number refusal count found : ℕ) (cards : List ℕ)
    → number < 2 ^ 64
    → refusal < 2 ^ 8
    → count < 2 ^ 32
    → found < 2 ^ 32
    → Cards cards
    → length (line_of number refusal count found cards) ≤ room_for (length cards)
unfolding line_of row_of
line_fits number refusal count found cards n r c f h =
    let row = row_of (refusal ∷ count ∷ found ∷ cards) in
    let line = length-append (decimal number ++ row) (newline ∷ []) in
    let front = length-append (decimal number) row in
    let one = length-append (space ∷ decimal refusal) (row_of (count ∷ found ∷ cards)) in
    let two = length-append (space ∷ decimal count) (row_of (found ∷ cards)) in
    let three = length-append (space ∷ decimal found) (row_of cards) in
    omega (
      arith,
      few_digits_64 number n,
      few_digits_8 refusal r,
      few_digits_32 count c,
      few_digits_32 found f,
      row_fits cards h,
      line,
      front,
      one,
      two,
      three,
    )

pub cut_fits : (left : ℕ) → left < 2 ^ 64 → length (cut_of left) ≤ 25
unfolding cut_of row_of
cut_fits left h =
    let row = length-append (space ∷ decimal left) [] in
    let all = length-append ((space ∷ decimal left) ++ []) (newline ∷ []) in
    omega (arith, row, all, few_digits_64 left h)
