-- Soundness is needed: if on a well-formed table every used record is entered by the search of radius 0 for its own
-- signature, the table is sound (`entered_sound`). So a loose table hides some card from the very search that should
-- find it. The key: what is entered lies below entered records only, and no sibling older than it is nearer than the
-- child above it by more than 2r, for such a sibling would have cut it off, by step 3's test or by its bound. Of the
-- distance only that it is equal both ways round is used. Assumes nothing.
use Prim.Native.Nat.{ℕ, suc, zero, ◌+◌, ◌*◌, ◌≤◌, ◌<◌}
use Rattle.std.specs.Prelude.{Bool, true, false, ◌≡◌, refl, ◌⊎◌, leb, ltb}
use Rattle.std.proofs.Common.{ap}
use Rattle.std.proofs.Math.Logic.{inl, inr}
use mathlib.Core.List.Memᴰ.{head as first}
use mathlib.Core.List.Memᴰ.{tail as later}
use mathlib.Core.List.{List, [], ◌∷◌}
use mathlib.Core.List.Memᴰ
use native.Mathlib.Omega.{arith}
use Rattle.std.proofs.Math.Decide.{dec_le}
use borrow.Author.Tests.{ltb-true, leb-true, lt-ltb}
use Rattle.distance.specs.Laws.{Distance}
use Rattle.places.specs.Choice.{and_left, and_right}
use Rattle.places.specs.Cases.{either}
use Rattle.tree.specs.Slots.{◌∈◌, ⊑_∈, keep, keep_from}
use Rattle.tree.specs.View.{View, Used, away, Below, here, down, Formed, Sound}
use Rattle.tree.specs.View.Shape.{below_younger, below_used, below_root, siblings_same}
use Rattle.tree.specs.View.Under.{under_from}
use Rattle.tree.specs.Search.{least, enters, is_visited, bound, turn, visit}
use Rattle.tree.proofs.Search.Once.{visit_part}

-- the least of a number that is asked for and another is no more than either
least_most : (b : Bool) (m n : ℕ) → least b m n ≤ n
unfolding least
least_most true m n = omega arith
least_most false m n = omega arith

least_asked : (b : Bool) (m n : ℕ) → b ≡ true → least b m n ≤ m
unfolding least
least_asked b m n e = rw e (omega arith)

-- x below y, and y below a
below_below : {children : ℕ → List ℕ} {y k x j a : ℕ} → Below children y j a → Below children x k y
    → (m : ℕ) × Below children x m a
below_below {k = k} (here e) s = (k, rw (← e) s)
below_below (down i p) s = let z = below_below p s in (suc z.0, down i z.1)

module _ {Sig : Type 0} (d : Sig → Sig → ℕ) (v : View Sig) (q : Sig) (r : ℕ) where
  -- what is entered stands at or below the slot visited
  visit_below : (f a t x : ℕ) → x ∈ visit d v q r f a t → (k : ℕ) × Below v.children x k a
  visit_below f a t x i =
      let z = under_from v.children f a x (⊑_∈ x (visit_part d v q r f a t) i) in (z.0, z.2)

  -- ---- a child's bound

  bound_most : (t b : ℕ) (cs : List ℕ) → bound d v q r t b cs ≤ t
  unfolding bound
  bound_most t b [] = omega arith
  bound_most t b (c ∷ cs) =
      omega (
        arith,
        least_most (ltb (away d v q c + 2 * r) (away d v q b)) (v.timestamp c) (bound d v q r t b cs),
        bound_most t b cs,
      )

  -- a younger sibling that beats the child by more than 2r bounds it
  bound_cuts : (t b c : ℕ) (cs : List ℕ) → c ∈ cs → away d v q c + 2 * r < away d v q b
      → bound d v q r t b cs ≤ v.timestamp c
  unfolding bound
  bound_cuts t b c [] x'' h = elim x'' [ ]
  bound_cuts t b c (e ∷ cs) (first p) h = rw p (least_asked _ (v.timestamp e) (bound d v q r t b cs)
      (lt-ltb (away d v q e + 2 * r) (away d v q b) (rw p at h)))
  bound_cuts t b c (e ∷ cs) (later i) h =
      omega (
        arith,
        least_most (ltb (away d v q e + 2 * r) (away d v q b)) (v.timestamp e) (bound d v q r t b cs),
        bound_cuts t b c cs i h,
      )

  is_visited_at : (os : List ℕ) (b o : ℕ) → is_visited d v q r os b ≡ true → o ∈ os
      → away d v q b ≤ away d v q o + 2 * r
  unfolding is_visited
  is_visited_at [] b o e x'' = elim x'' [ ]
  is_visited_at (p ∷ os) b o e (first s) =
      rw s (leb-true (away d v q b) (away d v q p + 2 * r) (and_left (leb (away d v q b) (away d v q p + 2 * r)) _ e))
  is_visited_at (p ∷ os) b o e (later i) =
      is_visited_at os b o (and_right (leb (away d v q b) (away d v q p + 2 * r)) _ e) i

  -- ---- what is entered is older than its bound

  -- x is entered through one child b of those whose turn it is, with a bound of at most t; and no sibling older than x
  -- is nearer than b by more than 2r
  record Through (go : ℕ → ℕ → List ℕ) (t x : ℕ) (os bs : List ℕ) : Type 0 where
    child : ℕ
    until : ℕ
    among : child ∈ bs
    by : x ∈ go child until
    within : until ≤ t
    nearer : (c : ℕ) → (c ∈ os) ⊎ (c ∈ bs) → v.timestamp c < v.timestamp x
        → away d v q child ≤ away d v q c + 2 * r

  module _ (go : ℕ → ℕ → List ℕ) (x : ℕ) (below : (b t : ℕ) → x ∈ go b t → v.timestamp x < t) where
    turn_here : (t : ℕ) (os : List ℕ) (b : ℕ) (bs : List ℕ)
        → x ∈ keep (is_visited d v q r os b) (go b (bound d v q r t b bs)) → Through go t x os (b ∷ bs)
    turn_here t os b bs i =
        let z = keep_from (is_visited d v q r os b) x (go b (bound d v q r t b bs)) i in
        record {
          child = b;
          until = bound d v q r t b bs;
          among = first refl;
          by = z.1;
          within = bound_most t b bs;
          nearer = λ c side older. either side
              (is_visited_at os b c z.0)
              (λ j. sibling c j older (below b (bound d v q r t b bs) z.1));
        }
      where
        sibling : (c : ℕ) → c ∈ (b ∷ bs) → v.timestamp c < v.timestamp x → v.timestamp x < bound d v q r t b bs
            → away d v q b ≤ away d v q c + 2 * r
        sibling c (first e) older h = rw e (omega arith)
        sibling c (later j) older h = elim (dec_le (away d v q b) (away d v q c + 2 * r)) [
          | yes p ↦ p
          | no m ↦ absurd (let cut = bound_cuts t b c bs j (omega arith) in omega arith)
        ]

    turn_through : (t : ℕ) (os bs : List ℕ) → x ∈ turn d v q r go t os bs → Through go t x os bs
    unfolding turn
    turn_through t os [] i = absurd (Memᴰ.not-nil i)
    turn_through t os (b ∷ bs) i =
        either
        (Memᴰ.append_cases (keep (is_visited d v q r os b) (go b (bound d v q r t b bs))) i)
        (turn_here t os b bs)
        (λ j. further (turn_through t (b ∷ os) bs j))
      where
        further : Through go t x (b ∷ os) bs → Through go t x os (b ∷ bs)
        further z =
            record {
              child = z.child;
              until = z.until;
              among = later z.among;
              by = z.by;
              within = z.within;
              nearer = λ c side. either side
                  (λ j. z.nearer c (inl (later j)))
                  (λ j. beside c j (z.nearer c));
            }
          where
            beside : (c : ℕ) → c ∈ (b ∷ bs)
                → ((c ∈ (b ∷ os)) ⊎ (c ∈ bs) → v.timestamp c < v.timestamp x
                → away d v q z.child ≤ away d v q c + 2 * r)
                → v.timestamp c < v.timestamp x → away d v q z.child ≤ away d v q c + 2 * r
            beside c (first e) f = f (inl (first e))
            beside c (later j) f = f (inr j)

  -- step 1, of what is entered
  enters_time : (a t : ℕ) → enters d v q r a t ≡ true → v.timestamp a < t
  unfolding enters
  enters_time a t e = ltb-true (v.timestamp a) t (and_left (ltb (v.timestamp a) t) _ e)

  enters_covered : (a t : ℕ) → enters d v q r a t ≡ true → away d v q a ≤ v.radius a + r
  unfolding enters
  enters_covered a t e = leb-true (away d v q a) (v.radius a + r) (and_right (ltb (v.timestamp a) t) _ e)

  -- what a visit enters: the slot itself, or what one of its children leads to
  abbrev Led : ℕ → ℕ → ℕ → ℕ → Type 0
  Led f a t x = (enters d v q r a t ≡ true) × ((x ≡ a) ⊎ Through (visit d v q r f) t x [] (v.children a))

  led_by : (f a t x : ℕ) → ((b t' : ℕ) → x ∈ visit d v q r f b t' → v.timestamp x < t')
      → x ∈ visit d v q r (suc f) a t → Led f a t x
  unfolding visit
  led_by f a t x before i =
      let z = keep_from (enters d v q r a t) x (a ∷ turn d v q r (visit d v q r f) t [] (v.children a)) i in
      (z.0, inside z.1)
    where
      inside : x ∈ (a ∷ turn d v q r (visit d v q r f) t [] (v.children a))
          → (x ≡ a) ⊎ Through (visit d v q r f) t x [] (v.children a)
      inside (first e) = inl e
      inside (later j) = inr (turn_through (visit d v q r f) x before t [] (v.children a) j)

  visit_before : (f a t x : ℕ) → x ∈ visit d v q r f a t → v.timestamp x < t
  unfolding visit
  visit_before zero a t x i = absurd (Memᴰ.not-nil i)
  visit_before (suc f) a t x i =
      let z = led_by f a t x (λ b t'. visit_before f b t' x) i in
      either z.1
      (λ e. rw e (enters_time a t z.0))
      (λ w. omega (arith, visit_before f w.child w.until x w.by, w.within))

  visit_led : (f a t x : ℕ) → x ∈ visit d v q r (suc f) a t → Led f a t x
  visit_led f a t x i = led_by f a t x (λ b t'. visit_before f b t' x) i

  -- ---- what an entered record says of those above it

  -- y, above x or x itself, covers the query, and of its children none that is older than x is nearer than the child
  -- above x by more than 2r
  record Passed (x y : ℕ) : Type 0 where
    covered : away d v q y ≤ v.radius y + r
    nearest : (k b c : ℕ) → b ∈ v.children y → c ∈ v.children y → Below v.children x k b
        → v.timestamp c < v.timestamp x → away d v q b ≤ away d v q c + 2 * r

  module _ {n root : ℕ} (wf : Formed v n root) where
    -- a child of a above x is the one through which x is entered
    child_same : (f a t x b k : ℕ) (w : Through (visit d v q r f) t x [] (v.children a)) → b ∈ v.children a
        → Below v.children x k b → w.child ≡ b
    child_same f a t x b k w m p =
        let z = visit_below f w.child w.until x w.by in
        siblings_same wf z.0 k x a w.child b w.among m z.1 p

    -- what is visited is not below its own children
    not_above : (a x b k : ℕ) → b ∈ v.children a → Below v.children x k b → x ≡ a → ⊥
    not_above a x b k m p e = omega (arith, wf.older a b m, below_younger wf p, ap v.timestamp e)

    passed : (f a t x j k y : ℕ) → x ∈ visit d v q r f a t → Below v.children y j a → Below v.children x k y
        → Passed x y
    unfolding visit
    passed zero a t x j k y i p s = absurd (Memᴰ.not-nil i)
    passed (suc f) a t x j k y i (here e) s =
        let z = visit_led f a t x i in
        rw e (record {
          covered = enters_covered a t z.0;
          nearest = λ l b c m o p older. either z.1
              (λ same. absurd (not_above a x b l m p same))
              (λ w. rw (child_same f a t x b l w m p) at (w.nearer c (inr o) older));
        })
    passed (suc f) a t x j k y i (down {k = l} {b = b} m p) s =
        let z = visit_led f a t x i in
        let deep = below_below p s in
        either z.1
        (λ same. absurd (not_above a x b deep.0 m deep.1 same))
        (λ w.
        passed f w.child w.until x l k y w.by
        (rw (child_same f a t x b deep.0 w m deep.1) p) s)

-- ---- the theorem

module _ {Sig : Type 0} {Fit : Sig → Type 0} {d : Sig → Sig → ℕ} (laws : Distance Fit d) {v : View Sig} {n root : ℕ}
    (wf : Formed v n root) (f t : ℕ)
    (entered : (x : ℕ) → Used v x → x ∈ visit d v (v.signature x) 0 f root t) where
  from_root : (x k y : ℕ) → Used v y → Below v.children x k y → Passed d v (v.signature x) 0 x y
  from_root x k y u p =
      let z = below_root wf y u in
      passed d v (v.signature x) 0 wf f root t x z.0 k y (entered x (below_used wf u p)) z.1 p

  pub entered_sound : Sound d v
  entered_sound =
      record {
        cover = λ k a x u p. omega (arith, (from_root x (suc k) a u p).covered);
        near = λ k a b c x u ib ic p older.
            let above = from_root x (suc (suc k)) a u (down ib p) in
            omega (
              arith,
              above.nearest (suc k) b c ib ic p older,
              laws.both_ways (v.signature x) (v.signature b),
              laws.both_ways (v.signature x) (v.signature c),
            );
      }
