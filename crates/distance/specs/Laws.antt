-- The four laws of a distance: all that the tree above may use of one (paper, "Signatures and their two distances").
use Rattle.std.specs.Prelude.{ℕ, ◌+◌, ◌≤◌, ◌≡◌}

-- no two signatures are farther apart than this
abbrev pub farthest : ℕ
farthest = 1048560

-- d is a distance of signatures; Fit says which values a signature's 32 bytes can hold, and only the fourth law asks it
pub record Distance {Sig : Type 0} (Fit : Sig → Type 0) (d : Sig → Sig → ℕ) : Type 0 where
  pub to_self : (a : Sig) → d a a ≡ 0
  pub both_ways : (a b : Sig) → d a b ≡ d b a
  pub over_third : (a b c : Sig) → d a c ≤ d a b + d b c
  pub at_most : (a b : Sig) → Fit a → Fit b → d a b ≤ farthest
