-- Which record is taken next of those that wait, and when the work is over.
use Rattle.std.specs.Prelude.{ℕ, ◌≡◌, Bool, true, false, List, [], ◌∷◌}
use Rattle.waiting.specs.Key.{first_in}
use Rattle.waiting.specs.Front.{State, exceeds}

-- the bound of the first of these exceeds the k-th of the distances held, or there is none
abbrev pub is_over : ℕ → List ℕ → List ℕ → Bool
is_over k held [] = true
is_over k held (x ∷ ws) = exceeds k held (first_in x)

-- none waits, or the least bound exceeds the k-th distance
abbrev pub Over : ℕ → State → Type 0
Over k S = is_over k S.held S.waits ≡ true

-- the work S is not over, its first that waits has the key x, and T is what is left without it
pub record Taken (k x : ℕ) (S T : State) : Type 0 where
  pub first : S.waits ≡ x ∷ T.waits
  pub near : exceeds k S.held (first_in x) ≡ false
  pub held : T.held ≡ S.held
  pub count : T.count ≡ S.count
