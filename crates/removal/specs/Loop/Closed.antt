-- Loop: child slots closed up in lent bytes, write by write: the record in slot p with its first k child slots closed
-- up without v (`ClosedTo`), one slot more (`closed_moved`, `closed_passed`), and the last two writes, after which p
-- has disowned v (`closed_disowning`). Assumes nothing.
use Rattle.std.specs.Prelude.{ℕ, ◌+◌, ◌-◌, ◌^◌, ◌≤◌, ◌<◌, ◌≡◌, refl, List, length, get_or, set}
use Rattle.std.proofs.Common.{sym, ap, ◌∙◌, arith}
use Rattle.refusals.specs.Limits.{most_children}
use Rattle.table.specs.Record.{Record, record_of, slot, no_slot}
use Rattle.table.specs.Same.{slots_length}
use Rattle.table.specs.Stands.{Stands, stands_same}
use Rattle.writing.specs.Put.{with_slots, with_slot, with_count, put_slot, put_count}
use Rattle.writing.specs.Laws.{Became, put_slot_lem, put_count_lem, became_by, became_none, then_with}
use Rattle.removal.specs.Removal.{disowning}
use Rattle.removal.specs.Loop.Closing.{
  kept,
  closing,
  kept_at_most,
  closing_none,
  closing_at,
  closing_out,
  closing_in,
  Hosts,
  disowning_is,
}

-- t is l with the first k child slots of the record in slot p closed up without v
abbrev pub ClosedTo : List ℕ → ℕ → ℕ → ℕ → List ℕ → Type 0
ClosedTo l p v k t = Became l p (with_slots (record_of l p) (closing v (record_of l p).slots k)) t

-- how many of the first k stay
abbrev pub kept_of : List ℕ → ℕ → ℕ → ℕ → ℕ
kept_of l p v k = kept v (record_of l p).slots k

module _ (l : List ℕ) (p v : ℕ) (stands : Stands l p) where
  abbrev r : Record
  r = record_of l p

  pub closed_none : ClosedTo l p v 0 l
  closed_none = became_by (became_none l p stands) (ap (with_slots r) (sym (closing_none v r.slots))) refl

  -- there is room for those that stay
  pub kept_few : (k n : ℕ) → k < n → n ≤ most_children → kept_of l p v k < most_children
  kept_few k n h b = omega (arith, kept_at_most v r.slots k)

  module _ {t : List ℕ} {w k c : ℕ} (few : k < most_children) (closed : ClosedTo l p v k t) (w-is : w ≡ kept_of l p v k)
      (c-is : c ≡ slot (record_of t p) k) where
    within : k < length r.slots
    within = omega (arith, slots_length l p)

    -- slot k is as it was
    child : c ≡ get_or r.slots k 0
    child =
        c-is
        ∙ ap (λ (q : Record). get_or q.slots k 0) closed.here
        ∙ closing_at v r.slots k within

    -- v is passed over
    pub closed_passed : c ≡ v → (w ≡ kept_of l p v (k + 1)) × ClosedTo l p v (k + 1) t
    closed_passed e =
        let out = closing_out v r.slots k within (sym child ∙ e) in
        (w-is ∙ out.1, became_by closed (ap (with_slots r) out.0) refl)

    -- any other moves up
    pub closed_moved :
        (c ≡ v → ⊥)
        → c < 256 ^ 2
        → (m : List ℕ)
        → m ≡ put_slot t p w c
        → (w + 1 ≡ kept_of l p v (k + 1)) × ClosedTo l p v (k + 1) m
    closed_moved ne small m e =
        let z = closing_in v r.slots k within (λ q. ne (child ∙ q)) in
        let room : w < most_children = omega (arith, w-is, kept_at_most v r.slots k) in
        let same : set (closing v r.slots k) w c ≡ closing v r.slots (k + 1) =
        ap (λ (i : ℕ). set (closing v r.slots k) i c) w-is
        ∙ ap (set (closing v r.slots k) (kept v r.slots k)) child
        ∙ z.0 in
        let write = put_slot_lem t p (stands_same l t closed.same_length p stands) w c room small in (
          ap (λ (i : ℕ). i + 1) w-is ∙ z.1,
          became_by (then_with (λ q. with_slot q w c) closed write) (ap (with_slots r) same) e,
        )

  -- all are closed up, the last becomes 65,535, and the count is one less
  pub closed_disowning :
      Hosts v (record_of l p)
      → (n : ℕ) → n ≡ (record_of l p).count
      → (t m k : List ℕ)
      → ClosedTo l p v n t
      → m ≡ put_slot t p (n - 1) no_slot
      → k ≡ put_count m p (n - 1)
      → Became l p (disowning v (record_of l p)) k
  closed_disowning h n count t m k closed e f =
      let first = put_slot_lem t p (stands_same l t closed.same_length p stands) (n - 1) no_slot
      (omega (arith, count, h.some, h.to_8)) (omega arith) in
      let ended = became_by (then_with (λ q. with_slot q (n - 1) no_slot) closed first) refl e in
      let second = put_count_lem m p (stands_same l m ended.same_length p stands) (n - 1)
      (omega (arith, count, h.to_8)) in
      became_by
      (then_with (λ q. with_count q (n - 1)) ended second)
      (ap (λ (j : ℕ). with_count (with_slot (with_slots r (closing v r.slots j)) (j - 1) no_slot) (j - 1)) count
      ∙ disowning_is v r h.some h.to_8 (slots_length l p) h.left h.past)
      f
