-- What stands below what in a well-formed table: every used record stands below the root, and nothing stands below two
-- siblings, since timestamps rise on every way down. Assumes nothing.
use Rattle.std.specs.Prelude.{ℕ, suc, zero, ◌+◌, ◌≤◌, ◌<◌, ◌≡◌, refl, List, [], ◌∷◌}
use Rattle.std.proofs.Common.{sym, ap, ◌∙◌, arith}
use mathlib.Core.List.Memᴰ.{head as first}
use mathlib.Core.List.Memᴰ.{tail as later}
use Rattle.std.proofs.Math.Decide.{ℕ_discrete}
use Rattle.tree.specs.Slots.{◌∈◌, Distinct}
use Rattle.tree.specs.View.{View, Used, Free, Below, here, down, Shallow, Rising, Formed, Sound}

-- ---- in any table

-- one level more, at the lower end
pub below_child : {children : ℕ → List ℕ} {y x k a : ℕ} → Below children y k a → x ∈ children y
    → Below children x (suc k) a
below_child (here e) i = down (rw e at i) (here refl)
below_child (down j p) i = down j (below_child p i)

pub shallow_some : {children : ℕ → List ℕ} {a : ℕ} → Shallow children zero a → ⊥
shallow_some {a} h = omega (arith, h zero a (here refl))

pub shallow_child :
    {children : ℕ → List ℕ} {f a b : ℕ} → Shallow children (suc f) a → b ∈ children a → Shallow children f b
shallow_child h i k x p = omega (arith, h (suc k) x (down i p))

-- "A free table is sound"
pub free_sound : {Sig : Type 0} (d : Sig → Sig → ℕ) {v : View Sig} → Free v → Sound d v
free_sound d free = record { cover = λ k a x u p. absurd (free a u); near = λ k a b c x u ib ic p h. absurd (free a u) }

pub rising_distinct : (timestamp : ℕ → ℕ) (l : List ℕ) → Rising timestamp l → Distinct l
rising_distinct timestamp [] r = tt
rising_distinct timestamp (a ∷ l) r = (λ i. omega (arith, r.0 a i), rising_distinct timestamp l r.1)

pub rising_same : (timestamp other : ℕ → ℕ) (l : List ℕ) → ((a : ℕ) → a ∈ l → other a ≡ timestamp a)
    → Rising timestamp l → Rising other l
rising_same timestamp other [] f r = tt
rising_same timestamp other (a ∷ l) f r = (
  λ c i. rw (f a (first refl), f c (later i)) (r.0 c i),
  rising_same timestamp other l (λ b i. f b (later i)) r.1,
)

-- ---- in a well-formed table

module _ {Sig : Type 0} {v : View Sig} {n root : ℕ} (wf : Formed v n root) where
  -- a record is younger than what it stands below, by the levels between at least
  pub below_younger : {x k a : ℕ} → Below v.children x k a → v.timestamp a + k ≤ v.timestamp x
  below_younger (here e) = rw e (omega arith)
  below_younger (down {a = a} {b = b} i p) = omega (arith, wf.older a b i, below_younger p)

  pub below_used : {x k a : ℕ} → Used v a → Below v.children x k a → Used v x
  below_used u (here e) = rw e u
  below_used u (down {a = a} {b = b} i p) = below_used (wf.child_used a b i) p

  -- one level less, at the lower end
  pub below_parent : {x k a : ℕ} → Below v.children x (suc k) a → Below v.children (v.parent x) k a
  below_parent {x} (down {a = a} {b = b} i (here e)) = here (ap v.parent e ∙ wf.child_parent a b i)
  below_parent (down i (down j p)) = down i (below_parent (down j p))

  pub below_hung : {x k a : ℕ} → Below v.children x (suc k) a → x ∈ v.children (v.parent x)
  below_hung {x} (down {a = a} {b = b} i (here e)) = rw (e, wf.child_parent a b i) i
  below_hung (down i (down j p)) = below_hung (down j p)

  -- every used record stands below the root
  pub below_root : (a : ℕ) → Used v a → (k : ℕ) × Below v.children a k root
  below_root a u = climb (suc (v.timestamp a)) a (omega arith) u
    where
      climb : (m a : ℕ) → v.timestamp a < m → Used v a → (k : ℕ) × Below v.children a k root
      climb zero a h u = absurd (omega arith)
      climb (suc m) a h u = elim (ℕ_discrete a root) [
        | yes e ↦ (zero, here e)
        | no ne ↦
            let p = wf.hung a u ne in
            let z = climb m (v.parent a) (omega (arith, wf.older (v.parent a) a p.1)) p.0 in
            (suc z.0, below_child z.1 p.1)
      ]

  -- ---- siblings

  -- no sibling stands below another
  siblings_apart : {k a b c : ℕ} → b ∈ v.children a → c ∈ v.children a → Below v.children b (suc k) c → ⊥
  siblings_apart {k} {a} {b} {c} ib ic p =
      let g : v.timestamp c + k ≤ v.timestamp a = rw (wf.child_parent a b ib) at (below_younger (below_parent p)) in
      omega (arith, wf.older a c ic)

  -- two siblings above one record are one
  pub siblings_same : (j k x a b c : ℕ) → b ∈ v.children a → c ∈ v.children a
      → Below v.children x j b → Below v.children x k c → b ≡ c
  siblings_same zero zero x a b c ib ic (here e) (here f) = sym e ∙ f
  siblings_same zero (suc k) x a b c ib ic (here e) q = absurd (siblings_apart {k = k} ib ic (rw (← e) q))
  siblings_same (suc j) zero x a b c ib ic p (here e) = absurd (siblings_apart {k = j} ic ib (rw (← e) p))
  siblings_same (suc j) (suc k) x a b c ib ic p q =
      siblings_same j k (v.parent x) a b c ib ic (below_parent p) (below_parent q)

  -- a record below one sibling has not another's timestamp
  pub siblings_timestamp : {k a b c x : ℕ} → b ∈ v.children a → c ∈ v.children a → Below v.children x (suc k) b
      → v.timestamp c ≡ v.timestamp x → ⊥
  siblings_timestamp {k} {a} {b} {c} {x} ib ic p e =
      let s = wf.timestamps c x (wf.child_used a c ic) (below_used (wf.child_used a b ib) p) e in
      siblings_apart {k = k} ic ib (rw s p)

  -- the children of one record are distinct
  pub children_distinct : (a : ℕ) → Distinct (v.children a)
  children_distinct a = rising_distinct v.timestamp (v.children a) (wf.rising a)
