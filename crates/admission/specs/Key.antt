-- Keys as a call gives them, and keys gathered in a row. Assumes nothing.
use Rattle.std.specs.Prelude.{ℕ, ◌≤◌, ◌<◌, ◌≡◌, Bool, List, length, get_or, take}
use Rattle.std.proofs.Common.{ap, ◌∙◌, length-take-le, get_or-take}
use Rattle.distinct.specs.Distinct.{distinct_to, distinct_same}

-- a call gives for each of n records the key that it has
abbrev pub Gives : ℕ → (ℕ → ℕ → Type 0) → (ℕ → ℕ) → Type 0
Gives n gives key = (s k : ℕ) → s < n → gives s k → k ≡ key s

-- the answer is whether the keys that it gives are distinct
abbrev pub ToldApart : ℕ → (ℕ → ℕ → Type 0) → Bool → Type 0
ToldApart n gives answer = (key : ℕ → ℕ) → Gives n gives key → answer ≡ distinct_to n key

-- the first n of a row that holds f are as distinct as f
pub gathered :
    (n : ℕ) (row : List ℕ) (f : ℕ → ℕ)
    → n ≤ length row
    → ((k : ℕ) → k < n → get_or row k 0 ≡ f k)
    → distinct_to (length (take n row)) (λ i. get_or (take n row) i 0) ≡ distinct_to n f
gathered n row f h e =
    ap (λ (m : ℕ). distinct_to m (λ i. get_or (take n row) i 0)) (length-take-le n row h)
    ∙ distinct_same n (λ i. get_or (take n row) i 0) f (λ k b. get_or-take n row k 0 b ∙ e k b)
