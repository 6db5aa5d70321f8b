-- On every table and for every query, a search of smaller radius enters a part of what a wider one enters, in the same
-- order, so its distance count is no larger. Assumes nothing.
use Prim.Native.Nat.{ℕ, suc, zero, ◌+◌, ◌*◌, ◌≤◌}
use Rattle.std.specs.Prelude.{Bool, true, false, ◌≡◌, leb, ltb}
use Rattle.std.proofs.lemmas.Bool.{false≢true}
use Rattle.std.proofs.Math.Path.{refl}
use mathlib.Core.List.Sublistᴰ
use mathlib.Core.List.{List, [], ◌∷◌}
use Rattle.std.proofs.Common.{arith}
use borrow.Author.Tests.{ltb-true, leb-true, lt-ltb, le-leb}
use Rattle.places.specs.Choice.{and_left, and_right, and_both}
use Rattle.tree.specs.Slots.{◌⊑◌, keep_more}
use Rattle.tree.specs.View.{View, away, distance_count}
use Rattle.tree.specs.View.Count.{distance_count_part}
use Rattle.tree.specs.Search.{least, enters, is_visited, bound, turn, visit}

-- fewer tests that hold, and a larger second number, give no smaller a least
least_wider : (a b : Bool) (x m n : ℕ) → (b ≡ true → a ≡ true) → m ≤ n → least a x m ≤ least b x n
unfolding least
least_wider true true x m n f h = omega arith
least_wider true false x m n f h = omega arith
least_wider false true x m n f h = absurd (false≢true (f refl))
least_wider false false x m n f h = h

module _ {Sig : Type 0} (d : Sig → Sig → ℕ) (v : View Sig) (q : Sig) {r s : ℕ} (rs : r ≤ s) where
  enters_wider : (a t u : ℕ) → t ≤ u → enters d v q r a t ≡ true → enters d v q s a u ≡ true
  unfolding enters
  enters_wider a t u h e =
      let g = ltb-true (v.timestamp a) t (and_left (ltb (v.timestamp a) t) _ e) in
      let g' = leb-true (away d v q a) (v.radius a + r) (and_right (ltb (v.timestamp a) t) _ e) in
      and_both (ltb (v.timestamp a) u) (leb (away d v q a) (v.radius a + s))
      (omega (arith, lt-ltb)) (omega (arith, le-leb))

  is_visited_wider : (os : List ℕ) (b : ℕ) → is_visited d v q r os b ≡ true → is_visited d v q s os b ≡ true
  unfolding is_visited
  is_visited_wider [] b e = refl
  is_visited_wider (o ∷ os) b e =
      let g = leb-true (away d v q b) (away d v q o + 2 * r) (and_left _ _ e) in
      and_both (leb (away d v q b) (away d v q o + 2 * s)) (is_visited d v q s os b)
      (omega (arith, le-leb)) (is_visited_wider os b (and_right (leb (away d v q b) (away d v q o + 2 * r)) _ e))

  bound_wider : (t u b : ℕ) (cs : List ℕ) → t ≤ u → bound d v q r t b cs ≤ bound d v q s u b cs
  unfolding bound
  bound_wider t u b [] h = h
  bound_wider t u b (c ∷ cs) h = least_wider _ _ _ _ _
      (λ e. omega (arith, lt-ltb, ltb-true (away d v q c + 2 * s) (away d v q b) e)) (bound_wider t u b cs h)

  turn_wider : (go go' : ℕ → ℕ → List ℕ) (t u : ℕ) (os bs : List ℕ) → t ≤ u
      → ((b t' u' : ℕ) → t' ≤ u' → go b t' ⊑ go' b u') → turn d v q r go t os bs ⊑ turn d v q s go' u os bs
  unfolding turn
  turn_wider go go' t u os [] h f = Sublistᴰ.slnil
  turn_wider go go' t u os (b ∷ bs) h f = Sublistᴰ.append
      (keep_more _ _ (is_visited_wider _ b) (f b _ _ (bound_wider t u b bs h))) (turn_wider go go' t u (b ∷ os) bs h f)

  pub visit_wider : (f a t u : ℕ) → t ≤ u → visit d v q r f a t ⊑ visit d v q s f a u
  unfolding visit
  visit_wider zero a t u h = Sublistᴰ.slnil
  visit_wider (suc f) a t u h = keep_more _ _ (enters_wider a t u h) (Sublistᴰ.cons-cons refl
      (turn_wider (visit d v q r f) (visit d v q s f) t u _ (v.children a) h (visit_wider f)))

  pub count_wider : (f a t : ℕ) → distance_count v (visit d v q r f a t) ≤ distance_count v (visit d v q s f a t)
  count_wider f a t = distance_count_part v (visit_wider f a t t (omega arith))
