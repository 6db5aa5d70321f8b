-- The counting form of "well formed": what one pass over the records sees, and numbers compared at the end. No record
-- is looked for in its parent's child slots: that each stands there once follows from the numbers (Counting.antt).
use Rattle.std.specs.Prelude.{ℕ, zero, suc, ◌+◌, ◌<◌, ◌≡◌, Bool, ◌&&◌, not, ltb, eqb}
use Rattle.places.specs.Choice.{pick, implies}
use Rattle.places.specs.Test.{all_to, count_to}
use Rattle.places.specs.Sum.{sum_to}
use Rattle.distinct.specs.Distinct.{OnePlaceEach, distinct_to}
use Rattle.table.specs.Record.{Record, Used, used, free, slot}
use Rattle.judge.specs.WellFormed.{Filled, is_free, is_filled, is_root, if_any}

-- ---- what the pass has seen before it comes to a place

-- the kind of the last used record before s, 0 if there is none
unfoldable pub kind_before : (ℕ → Record) → ℕ → ℕ
kind_before R zero = 0
kind_before R (suc s) = pick (used (R s)) (R s).kind (kind_before R s)

-- the timestamp that child i of a has to pass: its older sibling's, for the first child a's own
unfoldable pub time_before : (ℕ → Record) → ℕ → ℕ → ℕ
time_before R a zero = (R a).timestamp
time_before R a (suc i) = (R (slot (R a) i)).timestamp

-- ---- the numbers

module _ (n : ℕ) (R : ℕ → Record) where
  abbrev pub used_count : ℕ
  used_count = count_to n (λ s. used (R s))

  abbrev pub root_count : ℕ
  root_count = count_to n (is_root R)

  -- the child counts of all used records
  abbrev pub child_count : ℕ
  child_count = sum_to n (λ s. pick (used (R s)) (R s).count 0)

-- ---- the statements

-- child i of a is in the table, names a as its parent, and is younger than the child before it
pub record Linked (n : ℕ) (R : ℕ → Record) (a i : ℕ) : Type 0 where
  pub child_in : slot (R a) i < n
  pub child_parent : (R (slot (R a) i)).parent ≡ a
  pub child_younger : time_before R a i < (R (slot (R a) i)).timestamp

pub record Counted (n : ℕ) (R : ℕ → Record) : Type 0 where
  -- of each record
  pub free_if_no_card : (s : ℕ) → s < n → (R s).card ≡ 0 → R s ≡ free
  pub filled : (s : ℕ) → s < n → Used (R s) → Filled (R s)
  pub same_kind_lem : (s : ℕ) → s < n → Used (R s) → (kind_before R s ≡ 0 → ⊥) → kind_before R s ≡ (R s).kind
  pub linked : (a : ℕ) → a < n → Used (R a) → (i : ℕ) → i < (R a).count → Linked n R a i
  -- of the numbers: one root if any record is used, and every other used record is counted as a child
  pub one_root_lem : root_count n R ≡ if_any (used_count n R)
  pub each_a_child : child_count n R + root_count n R ≡ used_count n R
  -- of the keys; a free record has 0 for both
  pub cards : OnePlaceEach n (λ s. (R s).card)
  pub timestamps : OnePlaceEach n (λ s. (R s).timestamp)

-- ---- the test

-- the record in slot s has the kind before it, if there is one
unfoldable pub same_kind : (ℕ → Record) → ℕ → Bool
same_kind R s = implies (not (eqb (kind_before R s) 0)) (eqb (kind_before R s) (R s).kind)

module _ (n : ℕ) (R : ℕ → Record) where
  abbrev pub is_linked : ℕ → ℕ → Bool
  is_linked a i =
      ltb (slot (R a) i) n
      && (eqb (R (slot (R a) i)).parent a && ltb (time_before R a i) (R (slot (R a) i)).timestamp)

  -- all children of a are linked to it
  unfoldable pub all_linked : ℕ → Bool
  all_linked a = all_to (R a).count (is_linked a)

  -- what the pass asks of a record
  unfoldable pub fits : ℕ → Bool
  fits s = pick (used (R s)) (same_kind R s && (is_filled (R s) && all_linked s)) (is_free (R s))

  -- what is asked of the numbers
  unfoldable pub agree : Bool
  agree = eqb (root_count n R) (if_any (used_count n R)) && eqb (child_count n R + root_count n R) (used_count n R)

  unfoldable pub counted : Bool
  counted = (all_to n fits && agree) && (distinct_to n (λ s. (R s).card) && distinct_to n (λ s. (R s).timestamp))
