-- The tree from below: the record k levels above x, by parent slots, as a walk upwards finds it. In a well-formed table
-- it is the one record that x stands k levels below. Assumes nothing.
use Prim.Native.Nat.{ℕ, suc, zero, ◌<◌}
use Rattle.std.specs.Prelude.{◌≡◌, refl}
use Rattle.std.proofs.Math.Path.{ap}
use Rattle.std.proofs.Common.{◌∙◌, arith}
use Rattle.tree.specs.View.{View, Used, Below, here, down, Formed}

unfoldable pub above : (ℕ → ℕ) → ℕ → ℕ → ℕ
above parent zero x = x
above parent (suc k) x = parent (above parent k x)

module _ {Sig : Type 0} {v : View Sig} {n root : ℕ} (wf : Formed v n root) where
  pub below_above : {x k a : ℕ} → Below v.children x k a → above v.parent k x ≡ a
  unfolding above
  below_above (here e) = e
  below_above (down {a = a} {b = b} i p) = ap v.parent (below_above p) ∙ wf.child_parent a b i

  -- from a used record upwards, as far as the root is not passed
  pub above_below : (k x : ℕ) → Used v x → ((j : ℕ) → j < k → above v.parent j x ≡ root → ⊥)
      → Used v (above v.parent k x) × Below v.children x k (above v.parent k x)
  unfolding above
  above_below zero x u f = (u, here refl)
  above_below (suc k) x u f =
      let z = above_below k x u (λ j h. f j (omega arith)) in
      let up = wf.hung (above v.parent k x) z.0 (f k (omega arith)) in
      (up.0, down up.1 z.1)
