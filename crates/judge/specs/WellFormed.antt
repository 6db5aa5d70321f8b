-- "Well formed", clause by clause in the paper's words: first as statements, then as one test that computes.
-- A table is n records, of which R s stands in slot s.
use Rattle.std.specs.Prelude.{ℕ, ◌+◌, ◌≤◌, ◌<◌, ◌≡◌, Bool, true, ◌&&◌, not, List, leb, ltb, eqb, get_or, length}
use Rattle.refusals.specs.Limits.{most_children}
use Rattle.places.specs.Choice.{pick, implies}
use Rattle.places.specs.Test.{all_to, count_to}
use Rattle.distance.specs.Kind.{known_kind}
use Rattle.table.specs.Record.{Record, Used, used, free, slot, no_slot}

-- ---- the statements

-- "has every field as in the table above": card and timestamp from 1, child count 0 to 8, kind 1 or 2,
-- and child slots 65,535 past the count; four bytes hold nothing above 4,294,967,295
pub record Filled (r : Record) : Type 0 where
  pub card_from_1 : 1 ≤ r.card
  pub timestamp_from_1 : 1 ≤ r.timestamp
  pub count_to_8 : r.count ≤ most_children
  pub kind_known : known_kind r.kind ≡ true
  pub past_count : (i : ℕ) → r.count ≤ i → i < most_children → slot r i ≡ no_slot

-- how often s stands in the child slots of r
abbrev pub standing : ℕ → Record → ℕ
standing s r = count_to r.count (λ i. eqb (slot r i) s)

-- "names a used parent with a smaller timestamp and stands once in that parent's child slots"
pub record Hung (n : ℕ) (R : ℕ → Record) (s : ℕ) : Type 0 where
  pub parent_in : (R s).parent < n
  pub parent_used : Used (R (R s).parent)
  pub parent_older : (R (R s).parent).timestamp < (R s).timestamp
  pub stands_once : standing s (R (R s).parent) ≡ 1

-- "every child slot within the count names a used record whose parent is this one"
pub record Owned (n : ℕ) (R : ℕ → Record) (a c : ℕ) : Type 0 where
  pub child_in : c < n
  pub child_used : Used (R c)
  pub child_parent : (R c).parent ≡ a

pub record WellFormed (n : ℕ) (R : ℕ → Record) : Type 0 where
  -- each record is free or has every field as in the table above
  pub free_if_no_card : (s : ℕ) → s < n → (R s).card ≡ 0 → R s ≡ free
  pub filled : (s : ℕ) → s < n → Used (R s) → Filled (R s)
  -- cards are distinct; timestamps are distinct; all kinds are equal
  pub cards : (a b : ℕ) → a < n → b < n → Used (R a) → Used (R b) → (R a).card ≡ (R b).card → a ≡ b
  pub timestamps :
      (a b : ℕ) → a < n → b < n → Used (R a) → Used (R b) → (R a).timestamp ≡ (R b).timestamp → a ≡ b
  pub kinds : (a b : ℕ) → a < n → b < n → Used (R a) → Used (R b) → (R a).kind ≡ (R b).kind
  -- if any record is used, exactly one is a root
  pub a_root :
      (s : ℕ) → s < n → Used (R s) → (a : ℕ) × (a < n) × Used (R a) × ((R a).parent ≡ no_slot)
  pub one_root_lem :
      (a b : ℕ) → a < n → b < n → Used (R a) → Used (R b) → (R a).parent ≡ no_slot → (R b).parent ≡ no_slot → a ≡ b
  -- every other used record names a used parent with a smaller timestamp and stands once in that parent's child slots
  pub hung : (s : ℕ) → s < n → Used (R s) → ((R s).parent ≡ no_slot → ⊥) → Hung n R s
  -- every child slot within the count names a used record whose parent is this one
  pub owned : (a i : ℕ) → a < n → Used (R a) → i < (R a).count → Owned n R a (slot (R a) i)
  -- children stand in rising timestamp order
  pub rising :
      (a i : ℕ)
      → a < n
      → Used (R a)
      → i + 1 < (R a).count
      → (R (slot (R a) i)).timestamp < (R (slot (R a) (i + 1))).timestamp

-- ---- the test

-- l is n zeros
abbrev pub zeros : ℕ → List ℕ → Bool
zeros n l = eqb (length l) n && all_to n (λ i. eqb (get_or l i 0) 0)

-- a free record
unfoldable pub is_free : Record → Bool
is_free r =
    (((eqb r.card 0 && eqb r.timestamp 0) && (eqb r.radius 0 && eqb r.parent 0))
    && (eqb r.count 0 && eqb r.kind 0))
    && (zeros most_children r.slots && zeros 16 r.readings)

-- child slot i is 65,535 if it is past the count
abbrev pub is_past : Record → ℕ → Bool
is_past r i = implies (leb r.count i) (eqb (slot r i) no_slot)

-- so are all eight
unfoldable pub past_count : Record → Bool
past_count r = all_to most_children (is_past r)

-- a record that has every field as in the table above
unfoldable pub is_filled : Record → Bool
is_filled r =
    ((leb 1 r.card && leb 1 r.timestamp) && leb r.count most_children)
    && (known_kind r.kind && past_count r)

-- a used record without parent
abbrev pub is_root : (ℕ → Record) → ℕ → Bool
is_root R s = used (R s) && eqb (R s).parent no_slot

-- child i of a is older than the next
abbrev pub is_rising : (ℕ → Record) → ℕ → ℕ → Bool
is_rising R a i = ltb (R (slot (R a) i)).timestamp (R (slot (R a) (i + 1))).timestamp

-- 1 if there is any
abbrev pub if_any : ℕ → ℕ
if_any k = pick (eqb k 0) 0 1

module _ (n : ℕ) (R : ℕ → Record) where
  -- p holds of every used record
  abbrev pub each_used : (ℕ → Bool) → Bool
  each_used p = all_to n (λ s. implies (used (R s)) (p s))

  -- each record is free or has every field as in the table above
  unfoldable pub all_formed : Bool
  all_formed = all_to n (λ s. pick (used (R s)) (is_filled (R s)) (is_free (R s)))

  -- no two used records agree in f
  unfoldable pub distinct : (Record → ℕ) → Bool
  distinct f = each_used (λ a. all_to a (λ b. implies (used (R b)) (not (eqb (f (R a)) (f (R b))))))

  -- all kinds are equal
  unfoldable pub one_kind : Bool
  one_kind = each_used (λ a. each_used (λ b. eqb (R a).kind (R b).kind))

  -- if any record is used, exactly one is a root
  unfoldable pub one_root : Bool
  one_root = eqb (count_to n (is_root R)) (if_any (count_to n (λ s. used (R s))))

  abbrev pub is_hung : ℕ → Bool
  is_hung s =
      (ltb (R s).parent n && used (R (R s).parent))
      && (ltb (R (R s).parent).timestamp (R s).timestamp && eqb (standing s (R (R s).parent)) 1)

  -- every other used record names a used parent with a smaller timestamp and stands once in that parent's child slots
  unfoldable pub all_hung : Bool
  all_hung = each_used (λ s. implies (not (eqb (R s).parent no_slot)) (is_hung s))

  abbrev pub is_owned : ℕ → ℕ → Bool
  is_owned a c = ltb c n && (used (R c) && eqb (R c).parent a)

  -- every child slot within the count names a used record whose parent is this one
  unfoldable pub all_owned : Bool
  all_owned = each_used (λ a. all_to (R a).count (λ i. is_owned a (slot (R a) i)))

  -- children stand in rising timestamp order
  unfoldable pub all_rising : Bool
  all_rising = each_used (λ a. all_to (R a).count (λ i. implies (ltb (i + 1) (R a).count) (is_rising R a i)))

  unfoldable pub well_formed : Bool
  well_formed =
      ((all_formed && (distinct (λ r. r.card) && distinct (λ r. r.timestamp))) && (one_kind && one_root))
      && (all_hung && (all_owned && all_rising))
