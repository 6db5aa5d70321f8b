-- Loop: the largest timestamp among the records that stay. The slots that leave are marked, and the others looked
-- through. Assumes nothing.
use Rattle.std.specs.Prelude.{
  ℕ,
  zero,
  suc,
  ◌+◌,
  ◌≤◌,
  ◌<◌,
  max,
  ◌≡◌,
  refl,
  Bool,
  List,
  [],
  ◌∷◌,
  map,
  eqb,
  leb,
  length,
  get_or,
  set,
  drop,
  replicate,
}
use Rattle.std.proofs.Common.{
  ap,
  ◌∙◌,
  arith,
  add-one,
  length-set,
  drop_of_length-le,
  get_or-set_same,
  get_or-set_other,
  drop-cons,
  eq-eqb,
  ne_eqb,
  le-leb,
}
use mathlib.Core.List.Memᴰ
use mathlib.Core.List.Memᴰ.{head as first}
use mathlib.Core.List.Memᴰ.{tail as later}
use Rattle.places.specs.Choice.{pick}
use Rattle.refusals.specs.Limits.{most_records}
use Rattle.table.specs.Record.{Record, Used, used, free}
use Rattle.survey.specs.Survey.{largest_timestamp}
use Rattle.tree.specs.Slots.{◌∈◌, ∈_decide}
use Rattle.age.specs.Key.{slot_in}

-- ---- marks

-- no slot is marked
abbrev pub no_marks : List ℕ
no_marks = replicate most_records 0

-- the slots in these keys are marked 1
unfoldable pub marked : List ℕ → List ℕ → List ℕ
marked [] l = l
marked (k ∷ ks) l = marked ks (set l (slot_in k) 1)

pub marked_length : (ks l : List ℕ) → length (marked ks l) ≡ length l
unfolding marked
marked_length [] l = refl
marked_length (k ∷ ks) l = marked_length ks (set l (slot_in k) 1) ∙ length-set l (slot_in k) 1

pub marked_more : (ks l : List ℕ) (i : ℕ) → i < length ks
    → marked (drop (i + 1) ks) (set l (slot_in (get_or ks i 0)) 1) ≡ marked (drop i ks) l
unfolding marked
marked_more ks l i h = rw (drop-cons ks i 0 h, add-one i)

pub marked_end : (ks l : List ℕ) (i : ℕ) → length ks ≤ i → marked (drop i ks) l ≡ l
unfolding marked
marked_end ks l i h = rw (drop_of_length-le ks {i = i} h)

pub marked_all : (ks l : List ℕ) → marked (drop 0 ks) l ≡ marked ks l
marked_all ks l = refl

pub marked_out : (ks l : List ℕ) (a : ℕ) → (a ∈ map slot_in ks → ⊥) → get_or (marked ks l) a 0 ≡ get_or l a 0
unfolding marked
marked_out [] l a m = refl
marked_out (k ∷ ks) l a m =
    marked_out ks (set l (slot_in k) 1) a (λ i. m (later i)) ∙ get_or-set_other l (slot_in k) a 1 0 (λ e. m (first e))

pub marked_in : (ks l : List ℕ) (a : ℕ) → a ∈ map slot_in ks → a < length l → get_or (marked ks l) a 0 ≡ 1
unfolding marked
marked_in [] l a i h = absurd (Memᴰ.not-nil i)
marked_in (k ∷ ks) l a i h = elim (∈_decide a (map slot_in ks)) [
  | yes j ↦ marked_in ks (set l (slot_in k) 1) a j (omega (arith, length-set l (slot_in k) 1))
  | no m ↦
      marked_out ks (set l (slot_in k) 1) a m
      ∙ ap (λ (b : ℕ). get_or (set l (slot_in k) 1) b 0) (only m i)
      ∙ get_or-set_same l (slot_in k) 1 0 (omega (arith, only m i))
]
  where
    only : (a ∈ map slot_in ks → ⊥) → a ∈ map slot_in (k ∷ ks) → a ≡ slot_in k
    only m (first e) = e
    only m (later j) = absurd (m j)

-- ---- the records that are not marked

-- a marked record counts as free
abbrev pub unmarked : List ℕ → (ℕ → Record) → ℕ → Record
unmarked marks R s = pick (eqb (get_or marks s 0) 0) (R s) free

-- what a record adds to the largest timestamp
abbrev pub timestamp_in : Record → ℕ
timestamp_in r = pick (used r) r.timestamp 0

pub timestamp_marked :
    (marks : List ℕ) (R : ℕ → Record) (s : ℕ) → (get_or marks s 0 ≡ 0 → ⊥) → timestamp_in (unmarked marks R s) ≡ 0
timestamp_marked marks R s ne = rw (ne_eqb (get_or marks s 0) 0 ne)

pub timestamp_open :
    (marks : List ℕ) (R : ℕ → Record) (s : ℕ)
    → get_or marks s 0 ≡ 0
    → timestamp_in (unmarked marks R s) ≡ timestamp_in (R s)
timestamp_open marks R s e = rw (eq-eqb (get_or marks s 0) 0 e)

pub timestamp_free : (r : Record) → r.card ≡ 0 → timestamp_in r ≡ 0
timestamp_free r e = ap (λ (c : ℕ). pick (leb 1 c) r.timestamp 0) e

pub timestamp_used : (r : Record) → Used r → timestamp_in r ≡ r.timestamp
timestamp_used r u = ap (λ (t : Bool). pick t r.timestamp 0) (le-leb 1 r.card u)

pub largest_more :
    (n : ℕ) (R : ℕ → Record) → largest_timestamp (n + 1) R ≡ max (timestamp_in (R n)) (largest_timestamp n R)
unfolding largest_timestamp
largest_more n R = rw (add-one n)

pub largest_none : (R : ℕ → Record) → largest_timestamp 0 R ≡ 0
unfolding largest_timestamp
largest_none R = refl

-- records that add the same have the same largest
pub largest_same : (n : ℕ) (R S : ℕ → Record) → ((s : ℕ) → s < n → timestamp_in (R s) ≡ timestamp_in (S s))
    → largest_timestamp n R ≡ largest_timestamp n S
unfolding largest_timestamp
largest_same zero R S h = refl
largest_same (suc n) R S h = rw (h n (omega arith), largest_same n R S (λ s b. h s (omega arith)))
