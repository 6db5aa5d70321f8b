-- All that stands at or below a slot, as a list in walk order: in a well-formed table it is complete, has no repeats,
-- and for the root it is all used slots. With levels enough, more change nothing. Assumes nothing.
use Prim.Native.Nat.{ℕ, suc, zero, ◌≤◌, ◌<◌}
use Rattle.std.specs.Prelude.{◌≡◌, ◌↔◌, length}
use Rattle.std.proofs.Math.Path.{refl, ap}
use Rattle.std.proofs.Common.{sym, ◌∙◌}
use mathlib.Core.List.Memᴰ
use mathlib.Core.List.Memᴰ.{head as first}
use mathlib.Core.List.Memᴰ.{tail as later}
use mathlib.Core.List.{List, ◌∷◌, flat_map}
use native.Mathlib.Omega.{arith}
use Rattle.tree.specs.Slots.{◌∈◌, part_length, Distinct, distinct_flat_map}
use Rattle.tree.specs.Slots.{flat_map_from, flat_map_to, flat_map_part, flat_map_same}
use Rattle.tree.specs.View.{View, Used, Below, here, down, under, Shallow, Formed, used_count}
use Rattle.tree.specs.View.Shape.{shallow_some, shallow_child, below_younger, below_used}
use Rattle.tree.specs.View.Shape.{siblings_same, children_distinct}
use Rattle.tree.specs.View.Count.{used_at_most}

-- ---- in any table

module _ (children : ℕ → List ℕ) where
  pub under_from : (f a x : ℕ) → x ∈ under children f a → (k : ℕ) × (k < f) × Below children x k a
  unfolding under
  under_from zero a x i = absurd (Memᴰ.not-nil i)
  under_from (suc f) a x (first e) = (zero, omega arith, here e)
  under_from (suc f) a x (later i) =
      let z = flat_map_from (under children f) x (children a) i in
      let w = under_from f z.0 x z.2 in
      (suc w.0, omega (arith, w.1), down z.1 w.2)

  pub under_to : (f k a x : ℕ) → k < f → Below children x k a → x ∈ under children f a
  unfolding under
  under_to zero k a x h p = absurd (omega arith)
  under_to (suc f) k a x h (here e) = first e
  under_to (suc f) k a x h (down {k = j} {b = b} i p) =
      later (flat_map_to (under children f) x b (children a) i (under_to f j b x (omega arith) p))

  -- a way down of k levels passes k + 1 slots
  under_deep : (x k a : ℕ) → Below children x k a → suc k ≤ length (under children (suc k) a)
  unfolding under
  under_deep x k a (here e) = omega arith
  under_deep x k a (down {k = j} {b = b} i p) =
      omega (arith, part_length (flat_map_part (under children (suc j)) b (children a) i), under_deep x j b p)

  -- levels enough: more change nothing
  pub under_enough : (f g a : ℕ) → Shallow children f a → Shallow children g a → under children f a ≡ under children g a
  unfolding under
  under_enough zero g a hf hg = absurd (shallow_some hf)
  under_enough (suc f) zero a hf hg = absurd (shallow_some hg)
  under_enough (suc f) (suc g) a hf hg = ap (a ∷◌)
      (flat_map_same (under children f) (under children g) (children a)
      (λ b i. under_enough f g b (shallow_child hf i) (shallow_child hg i)))

-- ---- in a well-formed table

module _ {Sig : Type 0} {v : View Sig} {n root : ℕ} (wf : Formed v n root) where
  pub under_distinct : (f a : ℕ) → Distinct (under v.children f a)
  unfolding under
  under_distinct zero a = tt
  under_distinct (suc f) a = (
    λ i.
        let z = flat_map_from (under v.children f) a (v.children a) i in
        let p = under_from v.children f z.0 a z.2 in
        omega (arith, below_younger wf (down z.1 p.2)),
    distinct_flat_map (under v.children f) (v.children a) (children_distinct wf a) (λ b i. under_distinct f b)
        (λ b c x i j p q.
        let z = under_from v.children f b x p in
        let w = under_from v.children f c x q in
        siblings_same wf z.0 w.0 x a b c i j z.2 w.2),
  )

  pub under_used : (f a x : ℕ) → Used v a → x ∈ under v.children f a → Used v x
  under_used f a x u i = below_used wf u (under_from v.children f a x i).2

  -- "Depth never exceeds the number of used records"
  pub used_shallow : (f a : ℕ) → Used v a → used_count v n ≤ f → Shallow v.children f a
  used_shallow f a u h k x p = omega (
    arith,
    under_deep v.children x k a p,
    used_at_most wf (under v.children (suc k) a) (under_distinct (suc k) a) (λ y. under_used (suc k) a y u),
  )

  -- ---- with a level for each used record

  module _ (a : ℕ) (u : Used v a) where
    pub under_fuel : (f : ℕ) → used_count v n ≤ f → under v.children f a ≡ under v.children (used_count v n) a
    under_fuel f h = under_enough v.children f (used_count v n) a
        (used_shallow f a u h) (used_shallow (used_count v n) a u (omega arith))

    -- the slot, then what stands at or below each child in turn
    pub under_is :
        under v.children (used_count v n) a ≡ a ∷ flat_map (under v.children (used_count v n)) (v.children a)
    under_is = sym (under_fuel (suc (used_count v n)) (omega arith)) ∙ unfold under in refl

    pub under_iff : (x : ℕ) → x ∈ under v.children (used_count v n) a ↔ ((k : ℕ) × Below v.children x k a)
    under_iff x = (
      λ i. let z = under_from v.children (used_count v n) a x i in (z.0, z.2),
      λ z.
          let shallow = used_shallow (used_count v n) a u (omega arith) z.0 x z.1 in
          under_to v.children (used_count v n) z.0 a x shallow z.1,
    )
