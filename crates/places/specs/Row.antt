-- The row of f 0, f 1, .. , n of them. Assumes nothing.
use Rattle.std.specs.Prelude.{ℕ, zero, suc, ◌<◌, ◌≤◌, ◌≡◌, refl, List, [], ◌∷◌, length, get_or}
use Rattle.std.proofs.Common.{ap, arith}

unfoldable pub row_to : {A : Type 0} → ℕ → (ℕ → A) → List A
row_to zero f = []
row_to (suc n) f = f 0 ∷ row_to n (λ k. f (suc k))

pub row_length : {A : Type 0} (n : ℕ) (f : ℕ → A) → length (row_to n f) ≡ n
unfolding row_to
row_length zero f = refl
row_length (suc n) f = ap suc (row_length n (λ k. f (suc k)))

pub row_at : {A : Type 0} (n : ℕ) (f : ℕ → A) (z : A) (k : ℕ) → k < n → get_or (row_to n f) k z ≡ f k
unfolding row_to
row_at zero f z k h = absurd (omega arith)
row_at (suc n) f z zero h = refl
row_at (suc n) f z (suc k) h = row_at n (λ j. f (suc j)) z k (omega arith)

pub row_past : {A : Type 0} (n : ℕ) (f : ℕ → A) (z : A) (k : ℕ) → n ≤ k → get_or (row_to n f) k z ≡ z
unfolding row_to
row_past zero f z k h = refl
row_past (suc n) f z zero h = absurd (omega arith)
row_past (suc n) f z (suc k) h = row_past n (λ j. f (suc j)) z k (omega arith)

-- rows of the same parts are the same row
pub row_same : {A : Type 0} (n : ℕ) (f g : ℕ → A) → ((k : ℕ) → k < n → f k ≡ g k) → row_to n f ≡ row_to n g
unfolding row_to
row_same zero f g h = refl
row_same (suc n) f g h =
    λ i. h 0 (omega arith) i ∷ row_same n (λ k. f (suc k)) (λ k. g (suc k)) (λ k b. h (suc k) (omega arith)) i
