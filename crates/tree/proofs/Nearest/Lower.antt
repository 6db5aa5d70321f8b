-- On a well-formed and sound table a record's lower bound is no more than the distance of anything strictly below it.
-- The sibling's part: x below child b, with o an older sibling, is no farther from b than from o; so by the triangle b
-- is at most twice x's distance farther from the query than o. Of the distance only the laws are used. Assumes nothing.
use Rattle.std.specs.Prelude.{ℕ, suc, ◌-◌, ◌≤◌, ◌<◌, ◌≡◌}
use Rattle.std.proofs.Math.Path.{refl}
use mathlib.Core.List.Memᴰ.{head as first}
use mathlib.Core.List.Memᴰ.{tail as later}
use mathlib.Core.List.{List, [], ◌∷◌}
use native.Mathlib.Omega.{arith}
use Rattle.distance.specs.Laws.{Distance}
use Rattle.places.specs.Cases.{below_or}
use Rattle.tree.specs.Slots.{◌∈◌}
use Rattle.tree.specs.View.{View, Used, away, Below, Formed, Sound}
use Rattle.tree.specs.View.Shape.{below_younger}
use Rattle.tree.specs.Nearest.{half_up, smallest, sibling_part, lower_bound}

module _ {Sig : Type 0} (d : Sig → Sig → ℕ) (v : View Sig) (q : Sig) where
  -- the smallest distance is that of one of them
  smallest_of : (o : ℕ) (os : List ℕ) → (m : ℕ) × m ∈ (o ∷ os) × (smallest d v q o os ≡ away d v q m)
  unfolding smallest
  smallest_of o [] = (o, first refl, refl)
  smallest_of o (p ∷ os) =
      let z = smallest_of p os in
      below_or (away d v q o) (smallest d v q p os)
      (λ h. (o, first refl, omega arith))
      (λ h. (z.0, later z.1, omega (arith, z.2)))

  module _ {Fit : Sig → Type 0} (laws : Distance Fit d) {n root : ℕ} (wf : Formed v n root) (ok : Sound d v) where
    -- "half, rounded up, of its distance less" an older sibling's
    lower_sibling : {k x a b o : ℕ} → b ∈ v.children a → o ∈ v.children a → v.timestamp o < v.timestamp b
        → Below v.children x (suc k) b → half_up (away d v q b - away d v q o) ≤ away d v q x
    lower_sibling {k} {x} {a} {b} {o} ib io old p = omega (
      arith,
      ok.near k a b o x (wf.parent_used a b ib) ib io p (omega (arith, old, below_younger wf p)),
      laws.over_third (v.signature b) (v.signature x) q,
      laws.over_third (v.signature x) q (v.signature o),
      laws.both_ways (v.signature b) (v.signature x),
      laws.both_ways (v.signature o) q,
    )

    pub lower_siblings : {k x a b : ℕ} (os : List ℕ) → b ∈ v.children a
        → ((o : ℕ) → o ∈ os → o ∈ v.children a × (v.timestamp o < v.timestamp b))
        → Below v.children x (suc k) b → sibling_part d v q os b ≤ away d v q x
    unfolding sibling_part
    lower_siblings [] ib older p = omega arith
    lower_siblings (o ∷ os) ib older p =
        let z = smallest_of o os in
        let m = older z.0 z.1 in
        rw z.2 (lower_sibling ib m.0 m.1 p)

    -- "its distance less its covering radius"
    pub lower_radius : {k x b : ℕ} → Used v b → Below v.children x (suc k) b
        → away d v q b - v.radius b ≤ away d v q x
    lower_radius {k} {x} {b} u p =
        omega (arith, ok.cover k b x u p, laws.over_third (v.signature b) (v.signature x) q)

    -- a child b with the older siblings os, of a record with the bound p
    pub lower_below : {k x a b : ℕ} (p : ℕ) (os : List ℕ) → b ∈ v.children a
        → ((o : ℕ) → o ∈ os → o ∈ v.children a × (v.timestamp o < v.timestamp b))
        → p ≤ away d v q x → Below v.children x (suc k) b → lower_bound d v q p os b ≤ away d v q x
    unfolding lower_bound
    lower_below {a = a} {b = b} p os ib older h below =
        omega (arith, lower_radius (wf.child_used a b ib) below, lower_siblings os ib older below)

    -- the root
    pub lower_root : {k x : ℕ} → Below v.children x (suc k) root → lower_bound d v q 0 [] root ≤ away d v q x
    unfolding lower_bound sibling_part
    lower_root below = omega (arith, lower_radius wf.root_used below)
