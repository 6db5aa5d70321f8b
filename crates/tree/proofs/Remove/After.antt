-- What a removal leaves: a child that stays was a child before and is not the record removed, and what stands below a
-- record that stays stood below it before. Assumes nothing.
use Rattle.std.specs.Prelude.{ℕ, suc, zero, Bool, true, false, cond, ◌≡◌, refl, List, [], ◌∷◌, eqb}
use Rattle.std.proofs.Common.{sym, ◌∙◌, ne_eqb}
use mathlib.Core.List.Memᴰ
use mathlib.Core.List.Memᴰ.{head as first}
use mathlib.Core.List.Memᴰ.{tail as later}
use Rattle.std.proofs.lemmas.Bool.{eqb-false}
use Rattle.tree.specs.Slots.{◌∈◌}
use Rattle.tree.specs.View.{View, Used, Below, here, down, Rising, Formed}
use Rattle.tree.specs.View.Shape.{below_parent}
use Rattle.tree.specs.Remove.{except, Removed}

-- ---- the list without b

pub except_from : (b c : ℕ) (l : List ℕ) → c ∈ except b l → c ∈ l × (c ≡ b → ⊥)
unfolding except
except_from b c [] i = absurd (Memᴰ.not-nil i)
except_from b c (a ∷ l) i = go (eqb a b) refl (except_from b c l) i
  where
    go : (t : Bool) → eqb a b ≡ t → (c ∈ except b l → c ∈ l × (c ≡ b → ⊥)) → c ∈ cond t (except b l) (a ∷ except b l)
        → c ∈ (a ∷ l) × (c ≡ b → ⊥)
    go true q f j = let z = f j in (later z.0, z.1)
    go false q f (first e) = (first e, λ h. eqb-false a b q (sym e ∙ h))
    go false q f (later j) = let z = f j in (later z.0, z.1)

pub except_to : (b c : ℕ) (l : List ℕ) → c ∈ l → (c ≡ b → ⊥) → c ∈ except b l
unfolding except
except_to b c [] x'' ne = elim x'' [ ]
except_to b c (a ∷ l) (first e) ne = rw (ne_eqb a b (λ h. ne (e ∙ h))) (first e)
except_to b c (a ∷ l) (later i) ne = go (eqb a b) (except_to b c l i ne)
  where
    go : (t : Bool) → c ∈ except b l → c ∈ cond t (except b l) (a ∷ except b l)
    go true j = j
    go false j = later j

pub except_rising : (timestamp : ℕ → ℕ) (b : ℕ) (l : List ℕ) → Rising timestamp l → Rising timestamp (except b l)
unfolding except
except_rising timestamp b [] r = tt
except_rising timestamp b (a ∷ l) r = go (eqb a b) (except_rising timestamp b l r.1)
  where
    go : (t : Bool) → Rising timestamp (except b l) → Rising timestamp (cond t (except b l) (a ∷ except b l))
    go true k = k
    go false k = (λ c i. r.0 c (except_from b c l i).0, k)

-- ---- what stays

module _ {Sig : Type 0} {v w : View Sig} {n root b : ℕ} (wf : Formed v n root) (gone : Removed v w b) where
  pub removed_child : (a c : ℕ) → c ∈ w.children a → c ∈ v.children a × Used w a × Used w c
  removed_child a c i =
      let u = gone.parent_used a c i in
      let z = except_from b c (v.children a) (rw (gone.children a u) at i) in
      (z.0, u, gone.stays c (wf.child_used a c z.0) (above u z.0 z.1))
    where
      above : Used w a → c ∈ v.children a → (c ≡ b → ⊥) → (k : ℕ) → Below v.children c k b → ⊥
      above u j ne zero (here e) = ne e
      above u j ne (suc k) p = gone.removed a k (rw (wf.child_parent a c j) at (below_parent wf p)) u

  pub removed_below : {y k a : ℕ} → Used w a → Below w.children y k a → Below v.children y k a × Used w y
  removed_below u (here e) = (here e, rw e u)
  removed_below u (down {a = a} {b = c} i p) =
      let z = removed_child a c i in
      let q = removed_below z.2 p in
      (down z.0 q.0, q.1)
