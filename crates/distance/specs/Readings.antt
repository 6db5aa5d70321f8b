-- Kind 1: "the sum of the sixteen absolute differences, 0 to 1,048,560", and its four laws. Assumes nothing.
use Rattle.std.specs.Prelude.{ℕ, ◌+◌, ◌-◌, List, get_or}
use Rattle.std.proofs.Common.{arith}
use Rattle.distance.specs.Laws.{Distance}
use Rattle.places.specs.Sum.{sum_to, sum_zero, sum_same, sum_over, sum_at_most}
use Rattle.distance.specs.Signature.{Fit}

-- the absolute difference of two readings ("every reading from 0 to 65,535 is an ordinary number")
abbrev pub gap : ℕ → ℕ → ℕ
gap x y = (x - y) + (y - x)

-- what reading i adds to the distance
abbrev pub reading_gap : List ℕ → List ℕ → ℕ → ℕ
reading_gap a b i = gap (get_or a i 0) (get_or b i 0)

unfoldable pub readings_apart : List ℕ → List ℕ → ℕ
readings_apart a b = sum_to 16 (reading_gap a b)

pub readings_distance : Distance Fit readings_apart
unfolding readings_apart
readings_distance =
    record {
      to_self = λ a. sum_zero 16 (reading_gap a a) (λ i. omega arith);
      both_ways = λ a b. sum_same 16 (reading_gap a b) (reading_gap b a) (λ i. omega arith);
      over_third = λ a b c. sum_over 16 (reading_gap a c) (reading_gap a b) (reading_gap b c) (λ i. omega arith);
      at_most = λ a b fa fb. sum_at_most 16 65535 (reading_gap a b) (λ i. omega (arith, fa i, fb i));
    }
