-- What an insertion leaves: which slots are used, whose children they are, and what stands below what. The new slot
-- is a child of one record alone, nothing stands below it, and an old record stands below what it stood below.
-- Assumes nothing.
use Rattle.std.specs.Prelude.{ℕ, suc, ◌≤◌, ◌≡◌, ◌⊎◌, List}
use Rattle.std.proofs.Common.{inl, inr, arith}
use mathlib.Core.List.Memᴰ
use Rattle.std.proofs.Math.Decide.{ℕ_discrete}
use Rattle.tree.specs.Slots.{◌∈◌, ∈_decide}
use Rattle.places.specs.Cases.{either}
use Rattle.tree.specs.View.{View, Used, Below, here, down, Formed}
use Rattle.tree.specs.Insert.{Fresh, Inserted}

-- ---- of the two tables alone

module _ {Sig : Type 0} {d : Sig → Sig → ℕ} {v w : View Sig} {c s t on : ℕ} {x : Sig} {p : List ℕ}
    (done : Inserted d v w c x s t on p) where
  -- no covering radius shrinks
  pub inserted_radius : (a : ℕ) → (a ≡ s → ⊥) → v.radius a ≤ w.radius a
  inserted_radius a ne = elim (∈_decide a p) [
    | yes i ↦ rw (done.radius_path a i) (omega arith)
    | no m ↦ rw (done.radius_old a ne m) (omega arith)
  ]

  -- a slot used afterwards: s, or an old one
  pub inserted_used_cases : (a : ℕ) → Used w a → (a ≡ s) ⊎ ((a ≡ s → ⊥) × Used v a)
  inserted_used_cases a u = elim (ℕ_discrete a s) [ yes e ↦ inl e | no ne ↦ inr (ne, rw (done.card_old a ne) at u) ]

  -- a child afterwards: s under `on`, or an old one
  pub inserted_child : (a b : ℕ) → b ∈ w.children a → ((b ≡ s) × (a ≡ on)) ⊎ ((a ≡ s → ⊥) × b ∈ v.children a)
  inserted_child a b i = elim (ℕ_discrete a s) [
    | yes e ↦ absurd (Memᴰ.not-nil (rw (e, done.children_new) at i))
    | no ns ↦ elim (ℕ_discrete a on) [
      | no no' ↦ inr (ns, rw (done.children_old a ns no') at i)
      | yes e ↦ either (Memᴰ.append_cases (v.children on) (rw (e, done.children_on) at i))
          (λ j. inr (ns, rw e j))
          (λ j. inl (Memᴰ.eq_of_singleton j, e))
    ]
  ]

  pub inserted_child_old : (a b : ℕ) → (a ≡ s → ⊥) → b ∈ v.children a → b ∈ w.children a
  inserted_child_old a b ns i = elim (ℕ_discrete a on) [
    | yes e ↦ rw (e, done.children_on) (Memᴰ.append_left _ (rw e at i))
    | no no' ↦ rw (done.children_old a ns no') i
  ]

  -- nothing stands below s
  pub inserted_lowest : {k y : ℕ} → Below w.children y k s → y ≡ s
  inserted_lowest (here e) = e
  inserted_lowest (down i q) = absurd (Memᴰ.not-nil (rw done.children_new at i))

  pub inserted_upper : {k y a : ℕ} → Below w.children y (suc k) a → a ≡ s → ⊥
  inserted_upper (down i q) e = Memᴰ.not-nil (rw (e, done.children_new) at i)

  -- an old record stands below what it stood below
  pub inserted_below : {y k a : ℕ} → (y ≡ s → ⊥) → Below w.children y k a → Below v.children y k a
  inserted_below ne (here e) = here e
  inserted_below ne (down {a = a} {b = b} i q) = either (inserted_child a b i)
      (λ z. absurd (ne (inserted_lowest (rw z.0 at q))))
      (λ z. down z.1 (inserted_below ne q))

-- ---- in a free slot, with a new card and a later timestamp than all

module _ {Sig : Type 0} {v : View Sig} {n s c t : ℕ} (new : Fresh v n s c t) where
  pub fresh_slot : (a : ℕ) → Used v a → a ≡ s → ⊥
  fresh_slot a u e = new.slot_free (rw (← e) u)

  pub fresh_child : {root : ℕ} → Formed v n root → (a b : ℕ) → b ∈ v.children a → b ≡ s → ⊥
  fresh_child wf a b i = fresh_slot b (wf.child_used a b i)

  module _ {d : Sig → Sig → ℕ} {w : View Sig} {on : ℕ} {x : Sig} {p : List ℕ} (done : Inserted d v w c x s t on p) where
    pub inserted_new_used : Used w s
    inserted_new_used = rw done.card_new new.card_some

    pub inserted_old_used : (a : ℕ) → Used v a → Used w a
    inserted_old_used a u = rw (done.card_old a (fresh_slot a u)) u
