-- Which records stand in lent bytes: what a contract over a table asks of it, in place of where its bytes end. Callers
-- use the laws below and not the text of these names. Assumes nothing.
use Rattle.std.specs.Prelude.{ℕ, ◌+◌, ◌/◌, ◌%◌, ◌≤◌, ◌<◌, ◌≡◌, true, ◌&&◌, List, ◌++◌, leb, eqb, length, replicate}
use Rattle.std.proofs.Math.Path.{ap}
use Rattle.std.proofs.Common.{sym, ◌∙◌, length-append, leb-true, le-leb, eqb-true, eq-eqb}
use native.Mathlib.Omega.{arith}
use Rattle.std.proofs.lemmas.List.{length-replicate}
use Rattle.places.specs.Choice.{and_left, and_right, and_both}
use Rattle.refusals.specs.Limits.{most_records, most_children}
use Rattle.table.specs.Record.{record_of, slot, record_length, largest_table, place_of}
use Rattle.table.specs.Table.{right_size, records_in, free_table}

-- ---- what stands

-- slot s stands in the bytes l
unfoldable pub Stands : List ℕ → ℕ → Type 0
Stands l s = place_of s + record_length ≤ length l

-- the first n slots do
unfoldable pub StandTo : List ℕ → ℕ → Type 0
StandTo l n = place_of n ≤ length l

-- the bytes are n records, and nothing besides
unfoldable pub AreRecords : List ℕ → ℕ → Type 0
AreRecords l n = length l ≡ place_of n

-- the bytes are whole records
unfoldable pub WholeRecords : List ℕ → Type 0
WholeRecords l = length l % record_length ≡ 0

-- what a walk asks of a table: whole records, each with at most eight children, and these stand in it
pub record Walkable (l : List ℕ) : Type 0 where
  pub whole : WholeRecords l
  pub few : (s : ℕ) → Stands l s → (record_of l s).count ≤ most_children
  pub stand : (s i : ℕ) → Stands l s → i < (record_of l s).count → Stands l (slot (record_of l s) i)

-- ---- one from another

-- each of the first n
pub stands_below : (l : List ℕ) (n s : ℕ) → StandTo l n → s < n → Stands l s
unfolding StandTo Stands
stands_below l n s h b = omega arith

-- a slot stands exactly if it is one of the table's
pub stands_in : (l : List ℕ) (s : ℕ) → s < records_in l → Stands l s
unfolding Stands
stands_in l s h = omega arith

pub in_stands : (l : List ℕ) (s : ℕ) → Stands l s → s < records_in l
unfolding Stands
in_stands l s h = omega arith

-- all slots of a table stand in it
pub stand_all : (l : List ℕ) → StandTo l (records_in l)
unfolding StandTo
stand_all l = omega arith

-- ---- bytes that are whole records

pub whole_are : (l : List ℕ) → WholeRecords l → AreRecords l (records_in l)
unfolding WholeRecords AreRecords
whole_are l w = omega arith

pub are_whole : (l : List ℕ) (n : ℕ) → AreRecords l n → WholeRecords l
unfolding AreRecords WholeRecords
are_whole l n e = omega arith

pub are_in : (l : List ℕ) (n : ℕ) → AreRecords l n → records_in l ≡ n
unfolding AreRecords
are_in l n e = omega arith

pub are_stand : (l : List ℕ) (n : ℕ) → AreRecords l n → StandTo l n
unfolding AreRecords StandTo
are_stand l n e = omega arith

-- each of n records stands in them
pub are_stands : (l : List ℕ) (n s : ℕ) → AreRecords l n → s < n → Stands l s
unfolding AreRecords Stands
are_stands l n s e b = omega arith

-- as many records, as many bytes
pub are_long : (l m : List ℕ) (n : ℕ) → AreRecords l n → AreRecords m n → length l ≡ length m
unfolding AreRecords
are_long l m n e f = e ∙ sym f

-- so many are a table's most
pub are_large : (l : List ℕ) (n : ℕ) → AreRecords l n → n ≤ most_records → length l ≤ largest_table
unfolding AreRecords
are_large l n e h = omega arith

-- n free records are n records, also behind others, and n records made free are these
pub free_are : (n : ℕ) → AreRecords (free_table n) n
unfolding free_table AreRecords
free_are n = length-replicate {A = ℕ} (place_of n) 0

pub are_behind : (l : List ℕ) (n k : ℕ) → AreRecords l n → AreRecords (l ++ free_table k) (n + k)
unfolding free_table AreRecords
are_behind l n k e =
    omega (arith, length-append l (replicate (place_of k) 0), length-replicate {A = ℕ} (place_of k) 0, e)

pub are_free : (l : List ℕ) (n : ℕ) → AreRecords l n → replicate (length l) 0 ≡ free_table n
unfolding free_table AreRecords
are_free l n e = ap (λ (k : ℕ). replicate k 0) e

-- ---- the right size

-- a length of the right size, in numbers
right_parts : (n : ℕ) → right_size n ≡ true → (n % record_length ≡ 0) × (n ≤ largest_table)
unfolding right_size
right_parts n e =
    let between = and_left (leb record_length n && leb n largest_table) (eqb (n % record_length) 0) e in
    let rest = and_right (leb record_length n && leb n largest_table) (eqb (n % record_length) 0) e in (
      eqb-true (n % record_length) 0 rest,
      leb-true n largest_table (and_right (leb record_length n) (leb n largest_table) between),
    )

module _ (l : List ℕ) (right : right_size (length l) ≡ true) where
  -- a table of the right size is whole records, 1,024 of them at most
  pub right_whole : WholeRecords l
  unfolding WholeRecords
  right_whole = (right_parts (length l) right).0

  pub right_are : AreRecords l (records_in l)
  right_are = whole_are l right_whole

  pub right_most : records_in l ≤ most_records
  right_most = omega (arith, (right_parts (length l) right).1)

-- and so many records are of the right size
pub are_right : (l : List ℕ) (n : ℕ) → AreRecords l n → 1 ≤ n → n ≤ most_records → right_size (length l) ≡ true
unfolding right_size AreRecords WholeRecords
are_right l n e some few =
    and_both (leb record_length (length l) && leb (length l) largest_table) (eqb (length l % record_length) 0)
    (and_both (leb record_length (length l)) (leb (length l) largest_table)
    (le-leb record_length (length l) (omega arith))
    (le-leb (length l) largest_table (omega arith)))
    (eq-eqb (length l % record_length) 0 (are_whole l n e))

-- ---- bytes of the same length

module _ (l m : List ℕ) (long : length m ≡ length l) where
  pub stands_same : (s : ℕ) → Stands l s → Stands m s
  unfolding Stands
  stands_same s h = omega arith

  pub stand_to_same : (n : ℕ) → StandTo l n → StandTo m n
  unfolding StandTo
  stand_to_same n h = omega arith

  pub are_same : (n : ℕ) → AreRecords l n → AreRecords m n
  unfolding AreRecords
  are_same n e = long ∙ e

  pub whole_same : WholeRecords l → WholeRecords m
  unfolding WholeRecords
  whole_same w = ap (λ (k : ℕ). k % record_length) long ∙ w

  pub in_same : records_in m ≡ records_in l
  in_same = ap (λ (k : ℕ). k / record_length) long

-- a table of the same child counts and child slots can be walked too
pub walkable_same :
    {l m : List ℕ}
    → length m ≡ length l
    → ((s : ℕ) → (record_of m s).count ≡ (record_of l s).count)
    → ((s : ℕ) → (record_of m s).slots ≡ (record_of l s).slots)
    → Walkable l
    → Walkable m
walkable_same {l} {m} long counts slots w =
    record {
      whole = whole_same l m long w.whole;
      few = λ s h. rw (counts s) (w.few s (stands_same m l (sym long) s h));
      stand = λ s i h p.
          rw (slots s) (stands_same l m long (slot (record_of l s) i)
          (w.stand s i (stands_same m l (sym long) s h) (rw (counts s) at p)));
    }

-- ---- for `search`: what stands, from what stood or stands besides

pub ruleset stands-rules =
    (stands_below, stands_same, stand_to_same, stands_in, are_stand, stand_all, whole_same, are_same)

-- ---- where the bytes are, for the laws of the table's own bytes

pub stands_place : (l : List ℕ) (s : ℕ) → Stands l s → place_of s + record_length ≤ length l
unfolding Stands
stands_place l s h = h

-- past its records a table has no byte
pub past_place : (l : List ℕ) (s : ℕ) → WholeRecords l → records_in l ≤ s → length l ≤ place_of s
unfolding WholeRecords
past_place l s w h = omega arith
