-- The two orders of the nearest few: cards by distance and card, those that wait by bound and age. In a well-formed
-- table neither knows a tie: cards differ, and timestamps. Assumes nothing.
use Rattle.std.specs.Prelude.{ℕ, ◌≤◌, ◌<◌, Bool, true, false, ◌&&◌, ◌||◌, ◌≡◌, refl, ◌⊎◌, eqb, ltb}
use Rattle.std.proofs.Common.{true≢false, sym, ◌∙◌, inl, inr, arith, ltb-true, lt-ltb, eqb-true, eq-eqb}
use Rattle.places.specs.Cases.{below_or}
use Rattle.places.specs.Choice.{and_left, and_right, and_both}
use Rattle.tree.specs.Sorted.Laws.{Orders}
use Rattle.tree.specs.View.{View, Used, away, Formed}
use Rattle.tree.specs.Nearest.{Waiting, nearer, sooner}

-- ---- by two numbers

-- the first numbers decide, and among equals the second ones: as a test, and as a fact
abbrev pub is_ahead : ℕ → ℕ → ℕ → ℕ → Bool
is_ahead a x b y = ltb a b || (eqb a b && ltb x y)

abbrev pub Ahead : ℕ → ℕ → ℕ → ℕ → Type 0
Ahead a x b y = (a < b) ⊎ ((a ≡ b) × (x < y))

ahead_reads : (a x b y : ℕ) → is_ahead a x b y ≡ true → Ahead a x b y
ahead_reads a x b y e = go (ltb a b) refl e
  where
    go : (t : Bool) → ltb a b ≡ t → (t || (eqb a b && ltb x y)) ≡ true → Ahead a x b y
    go true f e = inl (ltb-true a b f)
    go false f e = inr (eqb-true a b (and_left (eqb a b) _ e), ltb-true x y (and_right (eqb a b) _ e))

ahead_holds : (a x b y : ℕ) → Ahead a x b y → is_ahead a x b y ≡ true
ahead_holds a x b y (inl h) = rw (lt-ltb a b h)
ahead_holds a x b y (inr h) = go (ltb a b)
  where
    go : (t : Bool) → (t || (eqb a b && ltb x y)) ≡ true
    go true = refl
    go false = and_both (eqb a b) _ (eq-eqb a b h.0) (lt-ltb x y h.1)

ahead_one_way : (a x b y : ℕ) → Ahead a x b y → Ahead b y a x → ⊥
ahead_one_way a x b y (inl h) (inl g) = omega arith
ahead_one_way a x b y (inl h) (inr g) = omega (arith, g.0)
ahead_one_way a x b y (inr h) (inl g) = omega (arith, h.0)
ahead_one_way a x b y (inr h) (inr g) = omega (arith, h.1, g.1)

ahead_through : (a x b y c z : ℕ) → Ahead a x b y → Ahead b y c z → Ahead a x c z
ahead_through a x b y c z (inl h) (inl g) = inl (omega arith)
ahead_through a x b y c z (inl h) (inr g) = inl (omega (arith, g.0))
ahead_through a x b y c z (inr h) (inl g) = inl (omega (arith, h.0))
ahead_through a x b y c z (inr h) (inr g) = inr (h.0 ∙ g.0, omega (arith, h.1, g.1))

ahead_tie : (a x b y : ℕ) → (Ahead a x b y → ⊥) → (Ahead b y a x → ⊥) → (a ≡ b) × (x ≡ y)
ahead_tie a x b y f g = (same, below_or x y (λ h. absurd (f (inr (same, h)))) second)
  where
    same : a ≡ b
    same = below_or a b (λ h. absurd (f (inl h))) (λ h. below_or b a (λ k. absurd (g (inl k))) (λ k. omega arith))

    second : y ≤ x → x ≡ y
    second h = below_or y x (λ k. absurd (g (inr (sym same, k)))) (λ k. omega arith)

pub ahead_first : (a x b y : ℕ) → Ahead a x b y → a ≤ b
ahead_first a x b y (inl h) = omega arith
ahead_first a x b y (inr h) = omega (arith, h.0)

-- a test that does not hold
fails : (t : Bool) → (t ≡ true → ⊥) → t ≡ false
fails true f = absurd (f refl)
fails false f = refl

-- things with two numbers each, where those with P that have the same numbers are one
pub ahead_orders : {A : Type 0} (f g : A → ℕ) {P : A → Type 0}
    → ((x y : A) → P x → P y → f x ≡ f y → g x ≡ g y → x ≡ y)
    → Orders (λ (x : A) (y : A). is_ahead (f x) (g x) (f y) (g y)) P
ahead_orders {A = A} f g same = record {
  one_way = λ x y e. fails _ (λ h. ahead_one_way (f x) (g x) (f y) (g y) (reads x y e) (reads y x h));
  through = λ x y z e h. ahead_holds (f x) (g x) (f z) (g z)
      (ahead_through (f x) (g x) (f y) (g y) (f z) (g z) (reads x y e) (reads y z h));
  one = λ x y px py e h.
      let tie = ahead_tie (f x) (g x) (f y) (g y) (fails_not x y e) (fails_not y x h) in
      same x y px py tie.0 tie.1;
}
  where
    reads : (x y : A) → is_ahead (f x) (g x) (f y) (g y) ≡ true → Ahead (f x) (g x) (f y) (g y)
    reads x y e = ahead_reads (f x) (g x) (f y) (g y) e

    fails_not : (x y : A) → is_ahead (f x) (g x) (f y) (g y) ≡ false → Ahead (f x) (g x) (f y) (g y) → ⊥
    fails_not x y e h = true≢false (sym (ahead_holds (f x) (g x) (f y) (g y) h) ∙ e)

-- ---- cards, nearest first

module _ {Sig : Type 0} (d : Sig → Sig → ℕ) (v : View Sig) (q : Sig) where
  pub nearer_reads : (a b : ℕ) → nearer d v q a b ≡ true → Ahead (away d v q a) (v.card a) (away d v q b) (v.card b)
  unfolding nearer
  nearer_reads a b e = ahead_reads _ _ _ _ e

  pub nearer_holds : (a b : ℕ) → Ahead (away d v q a) (v.card a) (away d v q b) (v.card b) → nearer d v q a b ≡ true
  unfolding nearer
  nearer_holds a b h = ahead_holds _ _ _ _ h

  pub nearer_orders : {n root : ℕ} → Formed v n root → Orders (nearer d v q) (Used v)
  unfolding nearer
  nearer_orders wf = ahead_orders (away d v q) v.card (λ a b ua ub e f. wf.cards a b ua ub f)

-- ---- those that wait, in the order in which they are taken

module _ {Sig : Type 0} (v : View Sig) where
  pub sooner_reads : (x y : Waiting) → sooner v x y ≡ true
      → Ahead x.lower (v.timestamp x.slot) y.lower (v.timestamp y.slot)
  unfolding sooner
  sooner_reads x y e = ahead_reads _ _ _ _ e

  pub sooner_holds : (x y : Waiting) → Ahead x.lower (v.timestamp x.slot) y.lower (v.timestamp y.slot)
      → sooner v x y ≡ true
  unfolding sooner
  sooner_holds x y h = ahead_holds _ _ _ _ h

  pub sooner_orders : {n root : ℕ} → Formed v n root → Orders (sooner v) (λ (w : Waiting). Used v w.slot)
  unfolding sooner
  sooner_orders wf = ahead_orders (λ (w : Waiting). w.lower) (λ (w : Waiting). v.timestamp w.slot)
      (λ x y ux uy e f.
      let s = wf.timestamps x.slot y.slot ux uy f in
      rw (s, e))
