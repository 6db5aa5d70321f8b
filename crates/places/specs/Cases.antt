-- Case splits with the split first, so that what is proved in each case has a known type: one of two facts, a number
-- below another or not, two numbers equal or not. Assumes nothing.
use Rattle.std.specs.Prelude.{ℕ, ◌≤◌, ◌<◌, ◌≡◌, refl, Bool, true, false, ◌⊎◌, ltb, eqb}
use Rattle.std.proofs.Common.{inl, inr, ltb-true, ltb-false, eqb-true}
use Rattle.std.proofs.lemmas.Bool.{eqb-false}

-- one of two facts, and what follows from each
pub either : {A B C : Type 0} → A ⊎ B → (A → C) → (B → C) → C
either (inl a) f g = f a
either (inr b) f g = g b

pub below_or {ℓ} : {C : Type ℓ} (x y : ℕ) → (x < y → C) → (y ≤ x → C) → C
below_or {C = C} x y f g = go (ltb x y) refl
  where
    go : (b : Bool) → ltb x y ≡ b → C
    go true e = f (ltb-true x y e)
    go false e = g (ltb-false x y e)

pub equal_or {ℓ} : {C : Type ℓ} (x y : ℕ) → (x ≡ y → C) → ((x ≡ y → ⊥) → C) → C
equal_or {C = C} x y f g = go (eqb x y) refl
  where
    go : (b : Bool) → eqb x y ≡ b → C
    go true e = f (eqb-true x y e)
    go false e = g (eqb-false x y e)
