-- Loop: The children's turn as a loop takes it: the smallest distance so far in one number, which starts from a value
-- `top` that no distance exceeds, and the bound so far in another. It is the paper's turn (`visit_from_is`): the start
-- value reads as "the first child always", since every distance is at most `top`. Assumes nothing.
use Prim.Native.Nat.{ℕ, suc, zero, ◌+◌, ◌*◌, ◌≤◌, min}
use Rattle.std.specs.Prelude.{Bool, true, false, ◌&&◌, cond, ◌≡◌, leb, ltb}
use Rattle.std.proofs.Math.Path.{refl, ap}
use Rattle.std.proofs.Common.{◌∙◌, arith, le-leb, leb-true, leb-false, ltb-true, ltb-false}
use mathlib.Core.List.Memᴰ.{head as first}
use mathlib.Core.List.Memᴰ.{tail as later}
use mathlib.Core.List.{List, [], ◌∷◌}
use Rattle.std.proofs.lemmas.Bool.{lt-leb}
use Rattle.distance.specs.Laws.{Distance, farthest}
use Rattle.tree.specs.Slots.{◌∈◌, keep}
use Rattle.tree.specs.View.{View, away}
use Rattle.tree.specs.Search.{least, enters, is_visited, bound, turn, visit}
use Rattle.tree.proofs.Search.Fuel.{turn_same}
use Rattle.tree.specs.Search.Turn.{bound_from, turn_from, visit_from}

-- ---- the smaller of two by a test, as code takes it

pub min_cond : (a b : ℕ) → min a b ≡ cond (ltb a b) a b
min_cond a b = go (ltb a b) refl
  where
    go : (p : Bool) → ltb a b ≡ p → min a b ≡ cond p a b
    go true e = omega (arith, ltb-true a b e)
    go false e = omega (arith, ltb-false a b e)

pub least_cond : (p : Bool) (a b : ℕ) → least p a b ≡ cond p (cond (ltb a b) a b) b
unfolding least
least_cond true a b = min_cond a b
least_cond false a b = refl

-- ---- the laws of the two running numbers

least_swap : (p s : Bool) (a b c : ℕ) → least p a (least s b c) ≡ least s b (least p a c)
unfolding least
least_swap true true a b c = omega arith
least_swap true false a b c = refl
least_swap false true a b c = refl
least_swap false false a b c = refl

leb_min : (x m y e : ℕ) → leb x (min m y + e) ≡ leb x (y + e) && leb x (m + e)
leb_min x m y e = go (leb x (y + e)) (leb x (m + e)) refl refl
  where
    go : (a b : Bool) → leb x (y + e) ≡ a → leb x (m + e) ≡ b → leb x (min m y + e) ≡ a && b
    go true true f g = omega (arith, le-leb, leb-true x (y + e) f, leb-true x (m + e) g)
    go true false f g = omega (arith, lt-leb, leb-true x (y + e) f, leb-false x (m + e) g)
    go false b f g = omega (arith, lt-leb, leb-false x (y + e) f)

module _ {Sig : Type 0} (d : Sig → Sig → ℕ) (v : View Sig) (q : Sig) (r : ℕ) where
  -- ---- the bound

  bound_least : (p : Bool) (x t b : ℕ) (cs : List ℕ)
      → bound d v q r (least p x t) b cs ≡ least p x (bound d v q r t b cs)
  unfolding bound
  bound_least p x t b [] = refl
  bound_least p x t b (c ∷ cs) = rw (bound_least p x t b cs) (least_swap _ p _ x _)

  pub bound_from_is : (t b : ℕ) (cs : List ℕ) → bound_from d v q r t b cs ≡ bound d v q r t b cs
  unfolding bound_from bound
  bound_from_is t b [] = refl
  bound_from_is t b (c ∷ cs) =
      bound_from_is (least (ltb (away d v q c + 2 * r) (away d v q b)) (v.timestamp c) t) b cs
      ∙ bound_least _ (v.timestamp c) t b cs

  -- ---- the turn

  module _ (top : ℕ) where
    -- m stands for the older siblings os, at every slot that is no farther than top
    abbrev pub StandsFor : ℕ → List ℕ → Type 0
    StandsFor m os = (b : ℕ) → away d v q b ≤ top → leb (away d v q b) (m + 2 * r) ≡ is_visited d v q r os b

    pub stands_first : StandsFor top []
    unfolding is_visited
    stands_first b h = omega (arith, le-leb)

    stands_next : (m o : ℕ) (os : List ℕ) → StandsFor m os → StandsFor (min m (away d v q o)) (o ∷ os)
    unfolding is_visited
    stands_next m o os s b h =
        leb_min (away d v q b) m (away d v q o) (2 * r) ∙ ap (leb (away d v q b) (away d v q o + 2 * r) &&◌) (s b h)

    pub turn_from_is : (go : ℕ → ℕ → List ℕ) (t m : ℕ) (os bs : List ℕ) → ((b : ℕ) → b ∈ bs → away d v q b ≤ top)
        → StandsFor m os → turn_from d v q r go t m bs ≡ turn d v q r go t os bs
    unfolding turn_from turn
    turn_from_is go t m os [] near s = refl
    turn_from_is go t m os (b ∷ bs) near s =
        rw (
          s b (near b (first refl)),
          bound_from_is t b bs,
          turn_from_is go t (min m (away d v q b)) (b ∷ os) bs (λ c i. near c (later i)) (stands_next m b os s),
        )

    -- the loop's walk is the paper's
    pub visit_from_is : ((a b : ℕ) → b ∈ v.children a → away d v q b ≤ top) → (f a t : ℕ)
        → visit_from d v q r top f a t ≡ visit d v q r f a t
    unfolding visit_from visit
    visit_from_is near zero a t = refl
    visit_from_is near (suc f) a t =
        let loop = turn_from_is (visit_from d v q r top f) t top [] (v.children a) (near a) stands_first in
        let down : (b t' : ℕ) → b ∈ v.children a → visit_from d v q r top f b t' ≡ visit d v q r f b t' =
        λ b t' i. visit_from_is near f b t' in
        let deeper = turn_same d v q r (visit_from d v q r top f) (visit d v q r f) t [] (v.children a) down in
        ap (λ (l : List ℕ). keep (enters d v q r a t) (a ∷ l)) (loop ∙ deeper)

  -- by the fourth law
  pub visit_from_farthest : {Fit : Sig → Type 0} → Distance Fit d → Fit q → ((a : ℕ) → Fit (v.signature a))
      → (top : ℕ) → farthest ≤ top → (f a t : ℕ) → visit_from d v q r top f a t ≡ visit d v q r f a t
  visit_from_farthest laws fq fs top h =
      visit_from_is top (λ a b i. omega (arith, h, laws.at_most (v.signature b) q (fs b) fq))
