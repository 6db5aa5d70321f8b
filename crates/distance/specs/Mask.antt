-- Kind 2: "the number of one bits in the exclusive or, summed over the four words, 0 to 256", and its four laws.
-- The law over a third word is proved bit by bit: of the lowest bits it is the triangle on 0 and 1. Assumes nothing.
use Rattle.std.specs.Prelude.{ℕ, zero, suc, ◌+◌, ◌-◌, ◌/◌, ◌%◌, ◌^◌, ◌≤◌, ◌<◌, ◌≡◌, List}
use Rattle.std.proofs.Common.{ap, ap₂, ◌∙◌, arith}
use Rattle.std.proofs.Math.Arith.{bin_ind, digits_div, digits_mod}
use Rattle.std.specs.Int.Bits.{bit_xor, differ, xor_step, xor_self}
use Rattle.std.proofs.lemmas.Nat.{xor_comm, xor_lt, ones-le}
use Rattle.std.specs.Int.Count.{ones, ones_step}
use Rattle.distance.specs.Laws.{Distance}
use Rattle.places.specs.Sum.{sum_to, sum_zero, sum_same, sum_over, sum_at_most}
use Rattle.distance.specs.Signature.{Fit, word_of, word_lt}

-- the number of one bits in the exclusive or of two words
unfoldable pub bits_apart : ℕ → ℕ → ℕ
bits_apart x y = ones (bit_xor x y)

-- what word k adds to the distance
abbrev pub word_gap : List ℕ → List ℕ → ℕ → ℕ
word_gap a b k = bits_apart (word_of a k) (word_of b k)

unfoldable pub masks_apart : List ℕ → List ℕ → ℕ
masks_apart a b = sum_to 4 (word_gap a b)

-- ---- one bit

-- `differ` of two bits is 1 if they differ and 0 if not: their difference, whichever is larger
differ_is : (x y : ℕ) → differ x y ≡ (x - y) + (y - x)
differ_is zero y = omega arith
differ_is (suc x) zero = omega arith
differ_is (suc x) (suc y) = omega (arith, differ_is x y)

differ_bit : (x y : ℕ) → differ (x % 2) (y % 2) < 2
differ_bit x y = omega (arith, differ_is (x % 2) (y % 2))

differ_over : (x y z : ℕ) → differ x z ≤ differ x y + differ y z
differ_over x y z = omega (arith, differ_is x z, differ_is x y, differ_is y z)

-- ---- one word

-- the lowest bit, and the rest
bits_step : (x y : ℕ) → bits_apart x y ≡ differ (x % 2) (y % 2) + bits_apart (x / 2) (y / 2)
unfolding bits_apart
bits_step x y =
    ap ones (xor_step x y)
    ∙ ones_step _
    ∙ ap₂
    (λ (p q : ℕ). p + ones q)
    (digits_mod (bit_xor (x / 2) (y / 2)) (differ_bit x y))
    (digits_div (bit_xor (x / 2) (y / 2)) (differ_bit x y))

-- where the words without their lowest bits keep the law over a third, so do the words
bits_over_step :
    (x y z : ℕ)
    → bits_apart (x / 2) (z / 2) ≤ bits_apart (x / 2) (y / 2) + bits_apart (y / 2) (z / 2)
    → bits_apart x z ≤ bits_apart x y + bits_apart y z
bits_over_step x y z rest =
    omega (arith, bits_step x z, bits_step x y, bits_step y z, differ_over (x % 2) (y % 2) (z % 2))

bits_self : (x : ℕ) → bits_apart x x ≡ 0
unfolding bits_apart ones
bits_self x = ap ones (xor_self x)

bits_both_ways : (x y : ℕ) → bits_apart x y ≡ bits_apart y x
unfolding bits_apart
bits_both_ways x y = ap ones (xor_comm x y)

bits_over_from_zero : (y z : ℕ) → bits_apart 0 z ≤ bits_apart 0 y + bits_apart y z
bits_over_from_zero y =
    bin_ind
    (λ (n : ℕ). (z : ℕ) → bits_apart 0 z ≤ bits_apart 0 n + bits_apart n z)
    (λ z. omega arith)
    (λ n rest z. bits_over_step 0 n z (rest (z / 2)))
    y

bits_over : (x y z : ℕ) → bits_apart x z ≤ bits_apart x y + bits_apart y z
bits_over x =
    bin_ind
    (λ (n : ℕ). (y z : ℕ) → bits_apart n z ≤ bits_apart n y + bits_apart y z)
    bits_over_from_zero
    (λ n rest y z. bits_over_step n y z (rest (y / 2) (z / 2)))
    x

-- words of w bits differ in at most w bits
pub bits_at_most : (w x y : ℕ) → x < 2 ^ w → y < 2 ^ w → bits_apart x y ≤ w
unfolding bits_apart
bits_at_most w x y hx hy = ones-le w (bit_xor x y) (xor_lt w x y hx hy)

-- ---- four words

pub masks_at_most : (a b : List ℕ) → Fit a → Fit b → masks_apart a b ≤ 256
unfolding masks_apart
masks_at_most a b fa fb =
    sum_at_most 4 64 (word_gap a b) (λ k. bits_at_most 64 (word_of a k) (word_of b k) (word_lt a k fa) (word_lt b k fb))

pub masks_distance : Distance Fit masks_apart
unfolding masks_apart
masks_distance =
    record {
      to_self = λ a. sum_zero 4 (word_gap a a) (λ k. bits_self (word_of a k));
      both_ways = λ a b. sum_same 4 (word_gap a b) (word_gap b a) (λ k. bits_both_ways (word_of a k) (word_of b k));
      over_third = λ a b c.
          sum_over
          4
          (word_gap a c)
          (word_gap a b)
          (word_gap b c)
          (λ k. bits_over (word_of a k) (word_of b k) (word_of c k));
      at_most = λ a b fa fb. omega (arith, masks_at_most a b fa fb);
    }
