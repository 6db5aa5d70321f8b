-- The counted child slots of a record, by place and by membership, and what their timestamps' rising says of both.
-- Assumes nothing.
use Rattle.std.specs.Prelude.{ℕ, zero, suc, ◌≤◌, ◌<◌, ◌≡◌, refl, List, [], ◌∷◌, eqb, length, get_or}
use Rattle.std.proofs.Common.{sym, ap, ◌∙◌, arith, length-take-le, get_or-take, eqb-true, eq-eqb}
use mathlib.Core.List.Memᴰ
use mathlib.Core.List.Memᴰ.{head as first}
use mathlib.Core.List.Memᴰ.{tail as later}
use Rattle.places.specs.Count.{some_counted, one_counted}
use Rattle.table.specs.Record.{Record, slot, children}
use Rattle.judge.specs.WellFormed.{standing}
use Rattle.tree.specs.Slots.{◌∈◌, Distinct}
use Rattle.tree.specs.View.{Rising}

-- ---- lists of slots, by place

pub ∈_at : (l : List ℕ) (b : ℕ) → b ∈ l → (i : ℕ) × (i < length l) × (get_or l i 0 ≡ b)
∈_at [] b x' = elim x' [ ]
∈_at (a ∷ l) b (first e) = (0, omega arith, sym e)
∈_at (a ∷ l) b (later j) = let z = ∈_at l b j in (suc z.0, omega (arith, z.1), z.2)

pub at_∈ : (l : List ℕ) (i : ℕ) → i < length l → get_or l i 0 ∈ l
at_∈ [] i h = absurd (omega arith)
at_∈ (a ∷ l) zero h = first refl
at_∈ (a ∷ l) (suc i) h = later (at_∈ l i (omega arith))

-- two places of a list without repeats hold the same only if they are one
pub distinct_at :
    (l : List ℕ) → Distinct l → (i j : ℕ) → i < length l → j < length l → get_or l i 0 ≡ get_or l j 0 → i ≡ j
distinct_at [] d i j h k e = absurd (omega arith)
distinct_at (a ∷ l) d zero zero h k e = refl
distinct_at (a ∷ l) d zero (suc j) h k e = absurd (d.0 (rw e (at_∈ l j (omega arith))))
distinct_at (a ∷ l) d (suc i) zero h k e = absurd (d.0 (rw (← e) (at_∈ l i (omega arith))))
distinct_at (a ∷ l) d (suc i) (suc j) h k e = ap suc (distinct_at l d.1 i j (omega arith) (omega arith) e)

-- each older than the next is each older than all that follow
pub rising_from :
    (timestamp : ℕ → ℕ) (l : List ℕ)
    → ((i : ℕ) → suc i < length l → timestamp (get_or l i 0) < timestamp (get_or l (suc i) 0))
    → Rising timestamp l
rising_from timestamp [] h = tt
rising_from timestamp (a ∷ []) h = (λ c i. absurd (Memᴰ.not-nil i), tt)
rising_from timestamp (a ∷ b ∷ l) h =
    let rest = rising_from timestamp (b ∷ l) (λ i p. h (suc i) (omega arith)) in
    let next : timestamp a < timestamp b = h 0 (omega arith) in
    (λ c i. all rest next i, rest)
  where
    all : {c : ℕ} → Rising timestamp (b ∷ l) → timestamp a < timestamp b → c ∈ (b ∷ l) → timestamp a < timestamp c
    all rest next (first e) = rw e next
    all {c} rest next (later i) = omega (arith, rest.0 c i)

pub rising_at :
    (timestamp : ℕ → ℕ) (l : List ℕ)
    → Rising timestamp l
    → (i : ℕ)
    → suc i < length l
    → timestamp (get_or l i 0) < timestamp (get_or l (suc i) 0)
rising_at timestamp [] r i h = absurd (omega arith)
rising_at timestamp (a ∷ l) r zero h = r.0 (get_or l 0 0) (at_∈ l 0 (omega arith))
rising_at timestamp (a ∷ l) r (suc i) h = rising_at timestamp l r.1 i (omega arith)

-- ---- the children of a record with at least as many slots as its count

module _ (r : Record) (fits : r.count ≤ length r.slots) where
  pub children_length : length (children r) ≡ r.count
  children_length = length-take-le r.count r.slots fits

  pub children_slot : (i : ℕ) → i < r.count → get_or (children r) i 0 ≡ slot r i
  children_slot i h = get_or-take r.count r.slots i 0 h

  pub children_at : (b : ℕ) → b ∈ children r → (i : ℕ) × (i < r.count) × (slot r i ≡ b)
  children_at b j =
      let z = ∈_at (children r) b j in
      let h : z.0 < r.count = omega (arith, z.1, children_length) in
      (z.0, h, sym (children_slot z.0 h) ∙ z.2)

  pub slot_child : (i : ℕ) → i < r.count → slot r i ∈ children r
  slot_child i h = rw (children_slot i h) at (at_∈ (children r) i (omega (arith, children_length)))

  -- what stands once in the child slots is a child
  pub standing_child : (s : ℕ) → standing s r ≡ 1 → s ∈ children r
  standing_child s e =
      let z = some_counted r.count (λ i. eqb (slot r i) s) (omega arith) in
      rw (eqb-true (slot r z.0) s z.2) at (slot_child z.0 z.1)

  -- a child of a record without repeats stands once in its child slots
  pub child_standing : (s : ℕ) → Distinct (children r) → s ∈ children r → standing s r ≡ 1
  child_standing s d j =
      let z = children_at s j in
      one_counted
      r.count
      z.0
      (λ i. eqb (slot r i) s)
      z.1
      (eq-eqb (slot r z.0) s z.2)
      (λ k b y.
      distinct_at
      (children r)
      d
      k
      z.0
      (omega (arith, children_length))
      (omega (arith, children_length, z.1))
      (children_slot k b ∙ eqb-true (slot r k) s y ∙ sym z.2 ∙ sym (children_slot z.0 z.1)))
