-- The stored cards: "each with the kind and signature that its accepted insert brought". Which are stored after a
-- change to one slot, in the plainest form for histories of calls. Assumes nothing.
use Rattle.std.specs.Prelude.{ℕ, ◌<◌, ◌≡◌, ◌⊎◌, ◌↔◌, List}
use Rattle.std.proofs.Common.{sym, ap, ◌∙◌, inl, inr, arith}
use Rattle.std.proofs.Math.Decide.{ℕ_discrete}
use Rattle.table.specs.Record.{Record, Used}
use Rattle.table.specs.Table.{at}
use Rattle.places.specs.Cases.{either}
use Rattle.newcomer.specs.Newcomer.{Newcomer, brought, brought_is, brought_card}
use Rattle.placing.specs.Place.Settled.{Ready, Settled, settled_new_used}

-- x stands in slot s of the n records R
pub record StoredAt (n : ℕ) (R : ℕ → Record) (x : Newcomer) (s : ℕ) : Type 0 where
  pub within : s < n
  pub used : Used (R s)
  pub same : brought (R s) ≡ x

-- x is stored
abbrev pub Stored : ℕ → (ℕ → Record) → Newcomer → Type 0
Stored n R x = (s : ℕ) × StoredAt n R x s

-- ---- in any table

-- ---- after a change to slot s alone

module _ (n : ℕ) (R S : ℕ → Record) (s : ℕ)
    (others : (a : ℕ) → a < n → (a ≡ s → ⊥) → brought (S a) ≡ brought (R a)) where
  -- what stands in another slot is stored before and after
  pub stored_other : (x : Newcomer) (a : ℕ) → (a ≡ s → ⊥) → StoredAt n R x a ↔ StoredAt n S x a
  stored_other x a ne = (
    λ z.
        let same = others a z.within ne in
        let card : (S a).card ≡ (R a).card = ap (λ (y : Newcomer). y.card) same in
        record { within = z.within; used = rw card z.used; same = same ∙ z.same },
    λ z.
        let same = others a z.within ne in
        let card : (S a).card ≡ (R a).card = ap (λ (y : Newcomer). y.card) same in
        record { within = z.within; used = rw card at z.used; same = sym same ∙ z.same },
  )

  -- s was free: what it now holds is stored besides
  pub stored_more :
      (R s).card ≡ 0 → s < n → Used (S s) → (x : Newcomer) → Stored n S x ↔ (x ≡ brought (S s)) ⊎ Stored n R x
  stored_more none b u x = (
    λ z. elim (ℕ_discrete z.0 s) [
      | yes e ↦ inl (sym z.1.same ∙ ap (λ (i : ℕ). brought (S i)) e)
      | no ne ↦ inr (z.0, (stored_other x z.0 ne).1 z.1)
    ],
    λ y. either y
        (λ e. (s, record { within = b; used = u; same = sym e }))
        (λ z.
        let ne : z.0 ≡ s → ⊥ = λ e. omega (arith, z.1.used, ap (λ (i : ℕ). (R i).card) e) in
        (z.0, (stored_other x z.0 ne).0 z.1)),
  )

  -- s is free now: what it held is stored no more, and nothing else leaves
  pub stored_less :
      ((a b : ℕ) → a < n → b < n → Used (R a) → Used (R b) → (R a).card ≡ (R b).card → a ≡ b)
      → s < n
      → Used (R s)
      → (S s).card ≡ 0
      → (x : Newcomer)
      → Stored n S x ↔ (Stored n R x × (x.card ≡ (R s).card → ⊥))
  stored_less cards b u none x = (
    λ z.
        let ne : z.0 ≡ s → ⊥ = λ e. omega (arith, z.1.used, ap (λ (i : ℕ). (S i).card) e) in
        let before = (stored_other x z.0 ne).1 z.1 in (
          (z.0, before),
          λ e. ne (cards z.0 s z.1.within b before.used u (brought_card (R z.0) x before.same ∙ e)),
        ),
    λ y.
        let z = y.0 in
        let ne : z.0 ≡ s → ⊥ =
        λ e. y.1 (sym (brought_card (R z.0) x z.1.same) ∙ ap (λ (i : ℕ). (R i).card) e) in
        (z.0, (stored_other x z.0 ne).0 z.1),
  )

-- ---- after a placing

-- the newcomer is stored besides what was
pub settled_stored :
    {n arity s t : ℕ} {x : Newcomer} {rows : List Record} {S : ℕ → Record}
    → Ready n arity s x rows
    → Settled n s t x (at rows) S
    → (y : Newcomer)
    → Stored n S y ↔ (y ≡ x) ⊎ Stored n (at rows) y
settled_stored {n} {s} {x} {rows} {S} ready new y =
    let here : brought (S s) ≡ x = brought_is (S s) x new.card_new new.kind_new new.readings_new in
    let both =
    stored_more
    n
    (at rows)
    S
    s
    (λ a b ne.
    let k = new.kept a ne in brought_is (S a) (brought (at rows a)) k.card k.kind k.readings)
    ready.slot_free
    ready.slot_within
    (settled_new_used ready new)
    y in
    rw here at both
