-- Fuel for the used records is enough for an insertion's walk too: more changes nothing, so the walk obeys the
-- paper's text with no word of fuel (`walk_is`), and every walk that obeys it is this one (`walk_only`). Assumes
-- nothing.
use Prim.Native.Nat.{ℕ, suc, zero, ◌≤◌}
use Rattle.std.specs.Prelude.{not, ◌≡◌}
use Rattle.std.proofs.Math.Path.{refl, ap}
use Rattle.std.proofs.Common.{sym, ◌∙◌, arith}
use mathlib.Core.List.{List, [], ◌∷◌}
use Rattle.tree.specs.Slots.{◌∈◌, keep}
use Rattle.tree.specs.View.{View, Used, Shallow, Formed, used_count}
use Rattle.tree.specs.View.Shape.{shallow_some, shallow_child}
use Rattle.tree.specs.View.Under.{used_shallow}
use Rattle.tree.specs.Insert.{nearest, hangs, onward, path, walk, IsWalk}
use Rattle.tree.proofs.Insert.Path.{nearest_∈}

module _ {Sig : Type 0} (d : Sig → Sig → ℕ) (v : View Sig) (x : Sig) (arity : ℕ) where
  -- what follows a is fixed by the walks from these children
  onward_same : (go go' : ℕ → List ℕ) (a : ℕ) (l : List ℕ) → ((c : ℕ) → c ∈ l → go c ≡ go' c)
      → onward d v x arity go a l ≡ onward d v x arity go' a l
  unfolding onward
  onward_same go go' a [] f = refl
  onward_same go go' a (c ∷ l) f =
      ap (keep (not (hangs d v x arity a (nearest d v x c l)))) (f (nearest d v x c l) (nearest_∈ d v x c l))

  -- fuel for the levels below a is enough
  pub path_enough : (f g a : ℕ) → Shallow v.children f a → Shallow v.children g a
      → path d v x arity f a ≡ path d v x arity g a
  unfolding path
  path_enough zero g a hf hg = absurd (shallow_some hf)
  path_enough (suc f) zero a hf hg = absurd (shallow_some hg)
  path_enough (suc f) (suc g) a hf hg = ap (a ∷◌)
      (onward_same (path d v x arity f) (path d v x arity g) a (v.children a)
      (λ b i. path_enough f g b (shallow_child hf i) (shallow_child hg i)))

  module _ {n root : ℕ} (wf : Formed v n root) (a : ℕ) (u : Used v a) where
    pub path_fuel : (f : ℕ) → used_count v n ≤ f → path d v x arity f a ≡ walk d v x arity n a
    path_fuel f h =
        path_enough f (used_count v n) a (used_shallow wf f a u h) (used_shallow wf (used_count v n) a u (omega arith))

    -- steps 2 and 3: a, and then nothing, or the same from its nearest child
    pub walk_is : walk d v x arity n a ≡ a ∷ onward d v x arity (walk d v x arity n) a (v.children a)
    walk_is = sym (path_fuel (suc (used_count v n)) (omega arith)) ∙ unfold path in refl

  -- ---- the paper's text has one walk

  module _ {n root : ℕ} (wf : Formed v n root) where
    pub walk_obeys : IsWalk d v x arity (walk d v x arity n)
    walk_obeys a u = walk_is wf a u

    -- a walk that obeys the text is this one as deep as there is anything
    walk_deep : (w : ℕ → List ℕ) → IsWalk d v x arity w → (f a : ℕ) → Used v a → Shallow v.children f a
        → w a ≡ path d v x arity f a
    unfolding path
    walk_deep w is zero a u h = absurd (shallow_some h)
    walk_deep w is (suc f) a u h = is a u ∙ ap (a ∷◌)
        (onward_same w (path d v x arity f) a (v.children a)
        (λ b i. walk_deep w is f b (wf.child_used a b i) (shallow_child h i)))

    pub walk_only : (w : ℕ → List ℕ) → IsWalk d v x arity w → (f a : ℕ) → used_count v n ≤ f → Used v a
        → w a ≡ path d v x arity f a
    walk_only w is f a h u = walk_deep w is f a u (used_shallow wf f a u h)
