-- Laws of the children as the walk's loops meet them: one for each place where a loop or a branch goes on. Assumes
-- nothing.
use Prim.Native.Nat.{ℕ, zero, suc, ◌+◌, ◌-◌, ◌*◌, ◌≤◌, ◌<◌, min}
use Rattle.std.specs.Prelude.{◌≡◌, Bool, true, false, ◌&&◌, List, [], ◌∷◌, ◌++◌, leb, ltb, length, get_or, drop, set}
use Rattle.std.specs.Prelude.{replicate, take}
use Rattle.std.proofs.Math.Path.{refl}
use Rattle.std.proofs.Common.{sym, ap, ◌∙◌, add-one, below_more, le-leb, lt-ltb, le-ltb, drop_of_length-le}
use Rattle.std.proofs.Common.{get_or-set_same, get_or-set_other, get_or-take, length-take-le, drop-cons}
use native.Mathlib.Omega.{arith}
use Rattle.std.proofs.Math.Decide.{ℕ_discrete}
use Rattle.std.proofs.lemmas.Bool.{lt-leb}
use Rattle.std.proofs.lemmas.List.{get_or_past}
use Rattle.places.specs.Cases.{below_or}
use Rattle.places.specs.Fill.{zeros_at}
use Rattle.distance.specs.Laws.{farthest}
use Rattle.table.specs.Record.{Record, record_of, slot, children}
use Rattle.table.specs.Same.{slots_length}
use Rattle.table.specs.Stands.{Stands, Walkable}
use Rattle.refusals.specs.Limits.{most_children}
use Rattle.tree.specs.Slots.{keep}
use Rattle.tree.specs.Search.{least, enters}
use Rattle.tree.specs.Search.Turn.{bound_from, turn_from, visit_from}
use Rattle.steps.specs.Step.{Query, away_from, away_in, is_covered, is_entered}
use Rattle.steps.specs.Loop.Children.{Compared, smallest_to, nearest_to, bound_on, child_bound, entered_from, rest_from}

-- a record of a table that can be walked has its children in its child slots
pub count_slots :
    (l : List ℕ) (s : ℕ)
    → (record_of l s).count ≤ most_children
    → (record_of l s).count ≤ length (record_of l s).slots
count_slots l s h = omega (arith, slots_length l s)

pub walkable_slots :
    (l : List ℕ) (s : ℕ)
    → Walkable l
    → Stands l s
    → (record_of l s).count ≤ length (record_of l s).slots
walkable_slots l s w h = count_slots l s (w.few s h)

-- ---- a bound so far, and the smallest distance so far

pub least_taken : (x y a b : ℕ) → x < y → min a b ≡ least (ltb x y) a b
unfolding least
least_taken x y a b h = rw (lt-ltb x y h)

pub least_left : (x y a b : ℕ) → y ≤ x → b ≡ least (ltb x y) a b
unfolding least
least_left x y a b h = rw (le-ltb x y h)

pub smallest_more :
    (k : ℕ) (f : ℕ → ℕ) (start m : ℕ)
    → m ≡ smallest_to k f start
    → min m (f k) ≡ smallest_to (k + 1) f start
unfolding smallest_to
smallest_more k f start m e = rw (add-one, e)

pub smallest_same :
    (k : ℕ) (f g : ℕ → ℕ) (start : ℕ) → ((j : ℕ) → j < k → f j ≡ g j) → smallest_to k f start ≡ smallest_to k g start
unfolding smallest_to
smallest_same zero f g start h = refl
smallest_same (suc k) f g start h = rw (smallest_same k f g start (λ j p. h j (omega arith)), h k (omega arith))

pub smallest_at_most : (k : ℕ) (f : ℕ → ℕ) (start : ℕ) → smallest_to k f start ≤ start
unfolding smallest_to
smallest_at_most zero f start = omega arith
smallest_at_most (suc k) f start = omega (arith, smallest_at_most k f start)

-- ---- the distances compared

module _ (R : ℕ → Record) (kind : ℕ) (q : List ℕ) (s : ℕ) where
  pub compared_none : Compared R kind q s 0 (replicate most_children 0)
  compared_none = record { each = λ k h. absurd (omega arith); near = λ k. omega (arith, zeros_at most_children k) }

  pub compared_more :
      (k x : ℕ) (ds : List ℕ)
      → k < length ds
      → x ≡ away_from R kind q (slot (R s) k)
      → x ≤ farthest
      → Compared R kind q s k ds
      → Compared R kind q s (k + 1) (set ds k x)
  compared_more k x ds h e f p =
      record {
        each =
            below_more
            (λ (j : ℕ). get_or (set ds k x) j 0 ≡ away_from R kind q (slot (R s) j))
            k
            (λ j b. get_or-set_other ds k j x 0 (λ i. omega arith) ∙ p.each j b)
            (get_or-set_same ds k x 0 h ∙ e);
        near = λ j. elim (ℕ_discrete j k) [
          | yes i ↦ rw i (omega (arith, get_or-set_same ds k x 0 h))
          | no n ↦ omega (arith, get_or-set_other ds k j x 0 n, p.near j)
        ];
      }

  -- .. of all n children, and no place behind them
  pub compared_all :
      (n : ℕ) (ds : List ℕ)
      → n ≤ length ds
      → Compared R kind q s n ds
      → (length (take n ds) ≡ n) × Compared R kind q s (length (take n ds)) (take n ds)
  compared_all n ds h p =
      let long = length-take-le n ds h in (
        long,
        record {
          each = λ k b. get_or-take n ds k 0 (omega arith) ∙ p.each k (omega arith);
          near = λ k.
              below_or
              k
              n
              (λ b. omega (arith, get_or-take n ds k 0 b, p.near k))
              (λ past. omega (arith, get_or_past (take n ds) k 0 (omega arith)));
        },
      )

-- the smallest of the distances compared is that of the definition
pub nearest_compared :
    (Q : Query) (a n k m : ℕ) (ds : List ℕ)
    → Compared Q.records Q.kind Q.readings a n ds
    → k ≤ n
    → m ≡ smallest_to k (λ j. get_or ds j 0) farthest
    → m ≡ nearest_to Q a k
nearest_compared Q a n k m ds p h e = e ∙ smallest_same k _ _ farthest (λ j b. p.each j (omega arith))

module _ (Q : Query) where
  -- ---- a visit

  pub visit_end : (left a t : ℕ) → left ≡ 0 → entered_from Q left a t ≡ []
  unfolding visit_from
  visit_end left a t e = rw e

  -- step 1's test of slot a
  abbrev pub enters_at : ℕ → ℕ → Bool
  enters_at a t = is_entered (Q.records a) (away_in Q a) Q.radius t

  visit_step :
      (left a t : ℕ) → (left ≡ 0 → ⊥)
      → entered_from Q left a t ≡ keep (enters_at a t) (a ∷ rest_from Q (left - 1) a t 0)
  unfolding visit_from enters smallest_to
  visit_step zero a t h = absurd (h refl)
  visit_step (suc left) a t h = let e : suc left - 1 ≡ left = omega arith in rw e

  -- whatever depth is left
  pub visit_out : (left a t : ℕ) → enters_at a t ≡ false → entered_from Q left a t ≡ []
  unfolding keep
  visit_out zero a t e = visit_end 0 a t refl
  visit_out (suc left) a t e = visit_step (suc left) a t (λ z. omega arith) ∙ rw e

  -- a record that is not covered is not entered, whatever the bound
  pub visit_uncovered :
      (left a t : ℕ) → is_covered (Q.records a) (away_in Q a) Q.radius ≡ false → entered_from Q left a t ≡ []
  visit_uncovered left a t e = visit_out left a t (out (ltb (Q.records a).timestamp t) _ e)
    where
      out : (x y : Bool) → y ≡ false → x && y ≡ false
      out true y e = e
      out false y e = refl

  pub visit_in :
      (left a t : ℕ)
      → (left ≡ 0 → ⊥)
      → enters_at a t ≡ true
      → entered_from Q left a t ≡ a ∷ rest_from Q (left - 1) a t 0
  unfolding keep
  visit_in left a t h e = visit_step left a t h ∙ rw e

  -- ---- the children of slot a

  module _ (a : ℕ) (few : (Q.records a).count ≤ length (Q.records a).slots) where
    pub count_length : length (children (Q.records a)) ≡ (Q.records a).count
    count_length = length-take-le (Q.records a).count (Q.records a).slots few

    from_child :
        (k : ℕ)
        → k < (Q.records a).count
        → drop k (children (Q.records a)) ≡ slot (Q.records a) k ∷ drop (k + 1) (children (Q.records a))
    from_child k h =
        let cs = children (Q.records a) in
        let e = count_length in
        drop-cons cs k 0 (omega arith)
        ∙ ap (λ (b : ℕ). b ∷ drop (suc k) cs) (get_or-take (Q.records a).count (Q.records a).slots k 0 h)
        ∙ ap (λ (j : ℕ). slot (Q.records a) k ∷ drop j cs) (sym (add-one k))

    no_child : (k : ℕ) → (Q.records a).count ≤ k → drop k (children (Q.records a)) ≡ []
    no_child k h = drop_of_length-le (children (Q.records a)) {i = k} (let e = count_length in omega arith)

    pub bound_step :
        (t k j : ℕ)
        → j < (Q.records a).count
        → bound_on Q a k t j
        ≡ bound_on
        Q
        a
        k
        (least
        (ltb (away_in Q (slot (Q.records a) j) + 2 * Q.radius) (away_in Q (slot (Q.records a) k)))
        (Q.records (slot (Q.records a) j)).timestamp
        t)
        (j + 1)
    unfolding bound_from
    bound_step t k j h = rw (from_child j h)

    pub bound_end : (t k j : ℕ) → (Q.records a).count ≤ j → bound_on Q a k t j ≡ t
    unfolding bound_from
    bound_end t k j h = rw (no_child j h)

    rest_step :
        (left t k : ℕ)
        → k < (Q.records a).count
        → rest_from Q left a t k
        ≡ keep
        (leb (away_in Q (slot (Q.records a) k)) (nearest_to Q a k + 2 * Q.radius))
        (entered_from Q left (slot (Q.records a) k) (child_bound Q a k t))
        ++ rest_from Q left a t (k + 1)
    unfolding turn_from
    rest_step left t k h =
        rw (from_child k h, ← smallest_more k (λ j. away_in Q (slot (Q.records a) j)) farthest _ refl)

    pub rest_end : (left t k : ℕ) → (Q.records a).count ≤ k → rest_from Q left a t k ≡ []
    unfolding turn_from
    rest_end left t k h = rw (no_child k h)

    -- child k is visited
    pub rest_in :
        (left t k b u : ℕ)
        → k < (Q.records a).count
        → away_in Q (slot (Q.records a) k) ≤ nearest_to Q a k + 2 * Q.radius
        → b ≡ slot (Q.records a) k
        → u ≡ child_bound Q a k t
        → rest_from Q left a t k ≡ entered_from Q left b u ++ rest_from Q left a t (k + 1)
    unfolding keep
    rest_in left t k b u h near eb eu = rest_step left t k h ∙ rw (le-leb _ _ near, eb, eu)

    -- child k is passed over
    pub rest_out :
        (left t k : ℕ)
        → k < (Q.records a).count
        → nearest_to Q a k + 2 * Q.radius < away_in Q (slot (Q.records a) k)
        → rest_from Q left a t k ≡ rest_from Q left a t (k + 1)
    unfolding keep
    rest_out left t k h far = rest_step left t k h ∙ rw (lt-leb _ _ far)

    -- child k is near enough, but not covered
    pub rest_uncovered :
        (left t k b : ℕ)
        → k < (Q.records a).count
        → away_in Q (slot (Q.records a) k) ≤ nearest_to Q a k + 2 * Q.radius
        → b ≡ slot (Q.records a) k
        → is_covered (Q.records b) (away_in Q b) Q.radius ≡ false
        → rest_from Q left a t k ≡ rest_from Q left a t (k + 1)
    rest_uncovered left t k b h near eb out =
        rest_in left t k b (child_bound Q a k t) h near eb refl
        ∙ ap
        (λ (z : List ℕ). z ++ rest_from Q left a t (k + 1))
        (visit_uncovered left b (child_bound Q a k t) out)
