-- The two edges of the paper that are to be proved of the distances alone.
use Rattle.std.specs.Prelude.{◌-◌, ◌^◌, ◌≡◌, refl, replicate}
use Rattle.std.proofs.Common.{arith}
use Rattle.std.specs.Int.Count.{ones-ones}
use Rattle.places.specs.Sum.{sum_to}
use Rattle.distance.specs.Laws.{farthest}
use Rattle.distance.specs.Signature.{word_of}
use Rattle.distance.specs.Readings.{readings_apart}
use Rattle.distance.specs.Mask.{bits_apart, masks_apart}

-- P10: all readings 0 against all 65,535; it is the fourth law's bound, so no pair of signatures is farther apart
pub P10 : readings_apart (replicate 16 0) (replicate 16 65535) ≡ farthest
unfolding readings_apart sum_to
P10 = refl

no_bit_against_all : bits_apart 0 (2 ^ 64 - 1) ≡ 64
unfolding bits_apart
no_bit_against_all = ones-ones 64

-- P11: no bits against all bits
pub P11 : masks_apart (replicate 16 0) (replicate 16 65535) ≡ 256
unfolding masks_apart sum_to word_of
P11 = omega (arith, no_bit_against_all)
