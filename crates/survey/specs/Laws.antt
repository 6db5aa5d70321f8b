-- What the survey's answers say of a table's records, well formed or not. Assumes nothing.
use Prim.Native.Nat.{ℕ, zero, suc, ◌≤◌, ◌<◌, max}
use Rattle.std.specs.Prelude.{◌≡◌, refl, true, false, ◌&&◌}
use Rattle.std.proofs.Common.{ap, ◌∙◌, arith}
use Rattle.std.proofs.Math.Path.{sym}
use Rattle.std.proofs.Math.Bool.{Bool, not, false≢true}
use Rattle.std.proofs.Math.Decide.{ℕ_discrete}
use Rattle.std.proofs.Math.Dec.{eqb}
use borrow.Author.Tests.{leb-true, leb-false, le-leb, eqb-true, eqb-false, eq-eqb, ne_eqb, not-true, not-false}
use Rattle.places.specs.Choice.{pick, and_left, and_right, and_both}
use Rattle.places.specs.Count.{some_counted, seen_counted}
use Rattle.places.specs.Test.{count_most}
use Rattle.places.specs.Cases.{below_or, equal_or}
use Rattle.table.specs.Record.{Record, Used, used, no_slot}
use Rattle.survey.specs.Survey.{first_from, used_in, slot_of_card, lowest_free, root_of, largest_timestamp}
use Rattle.survey.specs.First.{first_from_lem, first_is}

-- no slot before a has the card
abbrev pub NoCard : (ℕ → Record) → ℕ → ℕ → Type 0
NoCard R card a = (s : ℕ) → s < a → (R s).card ≡ card → ⊥

module _ (n : ℕ) (R : ℕ → Record) where
  pub used_in_most : used_in n R ≤ n
  unfolding used_in
  used_in_most = count_most n (λ s. used (R s))

  pub used_in_seen : (s : ℕ) → s < n → Used (R s) → 1 ≤ used_in n R
  unfolding used_in
  used_in_seen s b u = seen_counted n (λ a. used (R a)) s b (le-leb 1 (R s).card u)

  pub used_in_some : 1 ≤ used_in n R → (s : ℕ) × (s < n) × Used (R s)
  unfolding used_in
  used_in_some h = let z = some_counted n (λ a. used (R a)) h in (z.0, z.1, leb-true 1 (R z.0).card z.2)

  pub used_in_none : used_in n R ≡ 0 → (s : ℕ) → s < n → (R s).card ≡ 0
  used_in_none e s b = elim (ℕ_discrete (R s).card 0) [
    | yes z ↦ z
    | no ne ↦ absurd (omega (arith, used_in_seen s b (omega arith)))
  ]

  -- ---- the slot of a card

  pub slot_at_most : (card : ℕ) → slot_of_card n R card ≤ n
  unfolding slot_of_card
  slot_at_most card = omega (arith, (first_from_lem (λ s. eqb (R s).card card) 0 n).to)

  -- the slot found has the card
  pub slot_has_card : (card : ℕ) → slot_of_card n R card < n → (R (slot_of_card n R card)).card ≡ card
  unfolding slot_of_card
  slot_has_card card h =
      let p : ℕ → Bool = λ s. eqb (R s).card card in
      eqb-true (R (first_from p 0 n)).card card ((first_from_lem p 0 n).passes (omega arith))

  -- no slot before it does; and if none is found, no slot does at all
  pub no_card_before : (card : ℕ) → NoCard R card (slot_of_card n R card)
  unfolding slot_of_card
  no_card_before card s h =
      eqb-false (R s).card card ((first_from_lem (λ a. eqb (R a).card card) 0 n).before s (omega arith) h)

  -- a slot that has it, with none before it, is the one
  pub card_here : (card s : ℕ) → s < n → (R s).card ≡ card → NoCard R card s → s ≡ slot_of_card n R card
  unfolding slot_of_card
  card_here card s h e none =
      sym
      (first_is
      (λ a. eqb (R a).card card)
      0
      n
      s
      (record {
        from = omega arith;
        to = omega arith;
        passes = λ b. eq-eqb (R s).card card e;
        before = λ j b q. ne_eqb (R j).card card (none j q);
      }))

  -- and if none has it, the answer is n
  pub card_nowhere : (card : ℕ) → NoCard R card n → n ≡ slot_of_card n R card
  card_nowhere card none =
      below_or
      (slot_of_card n R card)
      n
      (λ h. absurd (none (slot_of_card n R card) h (slot_has_card card h)))
      (λ h. omega (arith, slot_at_most card))

  -- ---- the lowest free slot

  pub lowest_at_most : lowest_free n R ≤ n
  unfolding lowest_free
  lowest_at_most = omega (arith, (first_from_lem (λ s. not (used (R s))) 0 n).to)

  -- it has no card
  pub lowest_no_card : lowest_free n R < n → (R (lowest_free n R)).card ≡ 0
  unfolding lowest_free
  lowest_no_card h =
      let p : ℕ → Bool = λ s. not (used (R s)) in
      let a = first_from p 0 n in
      omega (arith, leb-false 1 (R a).card (not-true (used (R a)) ((first_from_lem p 0 n).passes (omega arith))))

  -- every slot before it is used
  pub used_before_lowest : (s : ℕ) → s < lowest_free n R → Used (R s)
  unfolding lowest_free
  used_before_lowest s h =
      let p : ℕ → Bool = λ a. not (used (R a)) in
      leb-true 1 (R s).card (not-false (used (R s)) ((first_from_lem p 0 n).before s (omega arith) h))

  -- ---- the root

  abbrev is_root : ℕ → Bool
  is_root s = used (R s) && eqb (R s).parent no_slot

  pub root_at_most : root_of n R ≤ n
  unfolding root_of
  root_at_most = omega (arith, (first_from_lem is_root 0 n).to)

  pub root_used : root_of n R < n → Used (R (root_of n R))
  unfolding root_of
  root_used h =
      let a = first_from is_root 0 n in
      leb-true
      1
      (R a).card
      (and_left (used (R a)) (eqb (R a).parent no_slot) ((first_from_lem is_root 0 n).passes (omega arith)))

  pub root_no_parent : root_of n R < n → (R (root_of n R)).parent ≡ no_slot
  unfolding root_of
  root_no_parent h =
      let a = first_from is_root 0 n in
      eqb-true
      (R a).parent
      no_slot
      (and_right (used (R a)) (eqb (R a).parent no_slot) ((first_from_lem is_root 0 n).passes (omega arith)))

  -- no slot before it is a root; and if none is found, no slot is at all
  pub no_root_before : (s : ℕ) → s < root_of n R → Used (R s) → (R s).parent ≡ no_slot → ⊥
  unfolding root_of
  no_root_before s h u e =
      false≢true
      (sym ((first_from_lem is_root 0 n).before s (omega arith) h)
      ∙ and_both (used (R s)) (eqb (R s).parent no_slot) (le-leb 1 (R s).card u) (eq-eqb (R s).parent no_slot e))

-- ---- the largest timestamp

-- every timestamp in use is at most the largest, and the largest is in use or 0
pub largest_late : (n : ℕ) (R : ℕ → Record) (s : ℕ) → s < n → Used (R s) → (R s).timestamp ≤ largest_timestamp n R
unfolding largest_timestamp
largest_late zero R s h u = absurd (omega arith)
largest_late (suc n) R s h u =
    equal_or
    s
    n
    (λ e. rw e (omega (arith, ap (λ (t : Bool). pick t (R n).timestamp 0) (le-leb 1 (R n).card (rw e at u)))))
    (λ ne. omega (arith, largest_late n R s (omega arith) u))

pub largest_in_use :
    (n : ℕ) (R : ℕ → Record)
    → 1 ≤ largest_timestamp n R
    → (s : ℕ) × (s < n) × Used (R s) × ((R s).timestamp ≡ largest_timestamp n R)
unfolding largest_timestamp
largest_in_use zero R h = absurd (omega arith)
largest_in_use (suc n) R h = on (used (R n)) refl (largest_in_use n R) h
  where
    Found : ℕ → Type 0
    Found t = (s : ℕ) × (s < suc n) × Used (R s) × ((R s).timestamp ≡ t)

    earlier :
        (t : ℕ)
        → t ≡ largest_timestamp n R
        → 1 ≤ t
        → (1 ≤ largest_timestamp n R → (s : ℕ) × (s < n) × Used (R s) × ((R s).timestamp ≡ largest_timestamp n R))
        → Found t
    earlier t e h' rest =
        let z = rest (omega arith) in
        (z.0, omega (arith, z.1), z.2, z.3 ∙ sym e)

    on :
        (b : Bool)
        → used (R n) ≡ b
        → (1 ≤ largest_timestamp n R → (s : ℕ) × (s < n) × Used (R s) × ((R s).timestamp ≡ largest_timestamp n R))
        → 1 ≤ max (pick b (R n).timestamp 0) (largest_timestamp n R)
        → Found (max (pick b (R n).timestamp 0) (largest_timestamp n R))
    on true e rest h' =
        below_or
        (R n).timestamp
        (largest_timestamp n R)
        (λ q. earlier (max (R n).timestamp (largest_timestamp n R)) (omega arith) h' rest)
        (λ q. (n, omega arith, leb-true 1 (R n).card e, omega arith))
    on false e rest h' = earlier (max 0 (largest_timestamp n R)) (omega arith) h' rest

module _ (R : ℕ → Record) where
  pub largest_at_most :
      (n t : ℕ) → ((s : ℕ) → s < n → Used (R s) → (R s).timestamp ≤ t) → largest_timestamp n R ≤ t
  largest_at_most n t h =
      below_or
      0
      (largest_timestamp n R)
      (λ b. let z = largest_in_use n R (omega arith) in omega (arith, z.3, h z.0 z.1 z.2))
      (λ b. omega arith)

  -- it is the timestamp of a used record that no other is younger than
  pub largest_is :
      (n s t : ℕ)
      → s < n
      → Used (R s)
      → (R s).timestamp ≡ t
      → ((a : ℕ) → a < n → Used (R a) → (R a).timestamp ≤ t)
      → largest_timestamp n R ≡ t
  largest_is n s t b u e h = omega (arith, largest_late n R s b u, largest_at_most n t h)
