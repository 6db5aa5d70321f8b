-- Loop: The children's turn as a loop takes it: the smallest distance so far in one number, which starts from a value
-- `top` that no distance exceeds, and the bound so far in another. That it is the paper's turn is proved in proofs/.
use Prim.Native.Nat.{ℕ, suc, zero, ◌+◌, ◌*◌, min}
use Rattle.std.specs.Prelude.{leb, ltb}
use mathlib.Core.List.{List, [], ◌∷◌, ◌++◌}
use Rattle.tree.specs.Slots.{keep}
use Rattle.tree.specs.View.{View, away}
use Rattle.tree.specs.Search.{least, enters}

-- ---- the loop's form

module _ {Sig : Type 0} (d : Sig → Sig → ℕ) (v : View Sig) (q : Sig) (r : ℕ) where
  -- the bound of child b: t is the bound so far, and the younger siblings are met from the first on
  unfoldable pub bound_from : ℕ → ℕ → List ℕ → ℕ
  bound_from t b [] = t
  bound_from t b (c ∷ cs) = bound_from (least (ltb (away d v q c + 2 * r) (away d v q b)) (v.timestamp c) t) b cs

  -- m is the smallest distance so far
  unfoldable pub turn_from : (ℕ → ℕ → List ℕ) → ℕ → ℕ → List ℕ → List ℕ
  turn_from go t m [] = []
  turn_from go t m (b ∷ bs) =
      keep (leb (away d v q b) (m + 2 * r)) (go b (bound_from t b bs)) ++ turn_from go t (min m (away d v q b)) bs

  -- the walk with such turns; fuel: the depth left
  unfoldable pub visit_from : ℕ → ℕ → ℕ → ℕ → List ℕ
  visit_from top zero a t = []
  visit_from top (suc f) a t = keep (enters d v q r a t) (a ∷ turn_from (visit_from top f) t top (v.children a))
