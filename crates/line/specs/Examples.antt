-- Lines of the paper's listing, a number at the edge of each type, and a cut, each computed.
use Rattle.std.specs.Prelude.{◌≡◌, refl, [], ◌∷◌}
use Rattle.std.proofs.Common.{arith}
use Rattle.line.specs.Line.{decimal, decimal_within, row_of, line_of, cut_of}
use Rattle.line.specs.Decimal.{decimal_within_lem}

-- "1 0 0 0"
line_1 :
    line_of 1 0 0 0 []
    ≡ 49 ∷ 32 ∷ 48 ∷ 32 ∷ 48 ∷ 32 ∷ 48 ∷ 10 ∷ []
unfolding line_of row_of decimal decimal_within
line_1 = refl

-- "7 0 5 2 11 14"
line_7 :
    line_of 7 0 5 2 (11 ∷ 14 ∷ [])
    ≡ 55 ∷ 32 ∷ 48 ∷ 32 ∷ 53 ∷ 32 ∷ 50 ∷ 32 ∷ 49 ∷ 49 ∷ 32 ∷ 49 ∷ 52 ∷ 10 ∷ []
unfolding line_of row_of decimal decimal_within
line_7 = refl

-- "9 0 4 2 11 14"
line_9 :
    line_of 9 0 4 2 (11 ∷ 14 ∷ [])
    ≡ 57 ∷ 32 ∷ 48 ∷ 32 ∷ 52 ∷ 32 ∷ 50 ∷ 32 ∷ 49 ∷ 49 ∷ 32 ∷ 49 ∷ 52 ∷ 10 ∷ []
unfolding line_of row_of decimal decimal_within
line_9 = refl

-- "10 6 0 0"
line_10 :
    line_of 10 6 0 0 []
    ≡ 49 ∷ 48 ∷ 32 ∷ 54 ∷ 32 ∷ 48 ∷ 32 ∷ 48 ∷ 10 ∷ []
unfolding line_of row_of decimal decimal_within
line_10 = refl

-- "11 0 0 0"
line_11 :
    line_of 11 0 0 0 []
    ≡ 49 ∷ 49 ∷ 32 ∷ 48 ∷ 32 ∷ 48 ∷ 32 ∷ 48 ∷ 10 ∷ []
unfolding line_of row_of decimal decimal_within
line_11 = refl

-- "cut 47"
cut_47 :
    cut_of 47
    ≡ 99 ∷ 117 ∷ 116 ∷ 32 ∷ 52 ∷ 55 ∷ 10 ∷ []
unfolding cut_of row_of decimal decimal_within
cut_47 = refl

-- "4294967295"
largest_card :
    decimal 4294967295
    ≡ 52 ∷ 50 ∷ 57 ∷ 52 ∷ 57 ∷ 54 ∷ 55 ∷ 50 ∷ 57 ∷ 53 ∷ []
unfolding decimal_within
largest_card = decimal_within_lem 9 4294967295 (omega arith)

-- "18446744073709551615"
largest_number :
    decimal 18446744073709551615
    ≡ 49 ∷ 56 ∷ 52 ∷ 52 ∷ 54 ∷ 55 ∷ 52 ∷ 52 ∷ 48 ∷ 55 ∷ 51 ∷ 55 ∷ 48 ∷ 57 ∷ 53 ∷ 53 ∷ 49 ∷ 54 ∷ 49 ∷ 53 ∷ []
unfolding decimal_within
largest_number = decimal_within_lem 19 18446744073709551615 (omega arith)
