-- A record's removal, with all that stands below it, is the tree's removal (`removed_is`). So what stays is well
-- formed, and sound if it was; where the root leaves, a free table is left. Assumes nothing.
use Rattle.std.specs.Prelude.{ℕ, ◌≤◌, ◌<◌, ◌≡◌, refl, List}
use Rattle.std.proofs.Math.Path.{sym}
use Rattle.std.proofs.Common.{ap, ◌∙◌, arith}
use mathlib.Core.List.Memᴰ
use Rattle.std.proofs.Math.Decide.{ℕ_discrete}
use Rattle.std.proofs.Math.ListN.{length, get_or-eq_default}
use Rattle.refusals.specs.Limits.{most_children}
use Rattle.table.specs.Record.{Record, Used, free, no_slot, children}
use Rattle.table.specs.Table.{at}
use Rattle.places.specs.Cases.{below_or}
use Rattle.judge.specs.WellFormed.{WellFormed}
use Rattle.survey.specs.Survey.{used_in, root_of, kind_of}
use Rattle.tree.specs.Slots.{◌∈◌, ∈_decide}
use Rattle.tree.specs.View.{Formed}
use Rattle.tree.specs.Remove.{Removed}
use Rattle.tree.proofs.Remove.After.{except_from}
use Rattle.tree.proofs.Remove.KeepsFormed.{removed_formed, removed_root}
use Rattle.tree.proofs.Remove.KeepsSound.{removed_sound}
use Rattle.view.specs.View.{view_of}
use Rattle.view.specs.Shaped.{Shaped}
use Rattle.survey.specs.Laws.{used_in_seen, used_in_some}
use Rattle.view.specs.Survey.{kind_of_is, root_of_is}
use Rattle.view.specs.Formed.{used_within, formed_table, free_formed}
use Rattle.view.specs.Sound.{SoundTable, sound_at}
use Rattle.removal.specs.Removal.{leaving, removed}
use Rattle.removal.specs.Leaving.{
  Held,
  Stayed,
  held_within,
  held_some,
  held_seen,
  leaving_iff,
  removed_length,
  removed_in,
  removed_out,
}

module _ {rows : List Record} {v : ℕ} (held : Held rows v) where
  -- the records that stay
  W : ℕ → Record
  W = at (removed rows v)

  -- what is used afterwards has not left
  pub used_stays : (a : ℕ) → Used (at (removed rows v) a) → a ∈ leaving rows v → ⊥
  used_stays a u i = omega (arith, ap (λ (r : Record). r.card) (removed_in held a i))

  stays : (a : ℕ) → Used (W a) → Stayed v (at rows a) (W a)
  unfolding W
  stays a u = removed_out held a (used_stays a u)

  -- ---- as the tree knows it

  pub removed_is : Removed (view_of (at rows)) (view_of (at (removed rows v))) v
  unfolding W
  removed_is =
      record {
        was_used = λ a u. rw (stays a u).card at u;
        removed = λ a k p u. used_stays a u ((leaving_iff held a).1 (k, p));
        stays =
            λ a u none.
            let m : a ∈ leaving rows v → ⊥ = λ i. let z = (leaving_iff held a).0 i in none z.0 z.1 in
            rw (removed_out held a m).card u;
        card = λ a u. (stays a u).card;
        timestamp = λ a u. (stays a u).timestamp;
        radius = λ a u. (stays a u).radius;
        parent = λ a u. (stays a u).parent;
        signature = λ a u. (stays a u).readings;
        children = λ a u. (stays a u).children;
        parent_used = λ a c i. elim (∈_decide a (leaving rows v)) [
          | yes j ↦ absurd (Memᴰ.not-nil (rw (removed_in held a j) at i))
          | no m ↦
              let s = removed_out held a m in
              let z = except_from v c (children (at rows a)) (rw s.children at i) in
              rw s.card ((held_seen held).parent_used a c z.0)
        ];
      }

  -- ---- the table that stays

  pub removed_shaped : Shaped (length rows) (at (removed rows v))
  removed_shaped =
      record {
        eight = λ a. each a (λ (r : Record). length r.slots ≡ most_children) refl (λ s. s.eight);
        sixteen = λ a.
            each a (λ (r : Record). length r.readings ≡ 16) refl
            (λ s. ap length s.readings ∙ held.shaped.sixteen a);
        past = λ a h. get_or-eq_default (removed rows v) free (omega (arith, removed_length held));
      }
    where
      each :
          (a : ℕ) (P : Record → Type 0)
          → P free
          → (Stayed v (at rows a) (at (removed rows v) a) → P (at (removed rows v) a))
          → P (at (removed rows v) a)
      each a P p q = elim (∈_decide a (leaving rows v)) [
        | yes i ↦ rw (removed_in held a i) p
        | no m ↦ q (removed_out held a m)
      ]

  -- a slot without a card is free
  pub removed_free : (a : ℕ) → (at (removed rows v) a).card ≡ 0 → at (removed rows v) a ≡ free
  removed_free a z = elim (∈_decide a (leaving rows v)) [
    | yes i ↦ removed_in held a i
    | no m ↦
        let s = removed_out held a m in
        let none : (at rows a).card ≡ 0 = sym s.card ∙ z in
        s.unused none ∙ was_free a none
  ]
    where
      was_free : (a : ℕ) → (at rows a).card ≡ 0 → at rows a ≡ free
      was_free a none =
          below_or a (length rows) (λ h. held.well_formed.free_if_no_card a h none) (λ h. held.shaped.past a h)

  same_kind_lem : (a b : ℕ) → Used (W a) → Used (W b) → (W a).kind ≡ (W b).kind
  same_kind_lem a b u w =
      let p = rw (stays a u).card at u in
      let q = rw (stays b w).card at w in
      (stays a u).kind
      ∙ held.well_formed.kinds a b (used_within held.shaped a p) (used_within held.shaped b q) p q
      ∙ sym (stays b w).kind

  -- "Remove the card's record and every record below it": what stays is well formed
  pub removed_well_formed : WellFormed (length rows) (at (removed rows v))
  unfolding W
  removed_well_formed = elim (ℕ_discrete v (root_of (length rows) (at rows))) [
    | yes e ↦ free_formed (λ a b. removed_free a (none a e))
    | no ne ↦
        let root = root_of_is (length rows) (at rows) held.well_formed (held_some held) in
        formed_table held.small removed_shaped
        (removed_formed (held_seen held) removed_is ne)
        (record {
          free_if_no_card = λ a b z. removed_free a z;
          filled = λ a b u. (stays a u).filled (held.well_formed.filled a b (rw (stays a u).card at u));
          kinds = λ a b _ _ u w. same_kind_lem a b u w;
          root_parent =
              let u = (removed_formed (held_seen held) removed_is ne).root_used in
              (stays (root_of (length rows) (at rows)) u).parent ∙ root.2;
        })
  ]
    where
      none : (a : ℕ) → v ≡ root_of (length rows) (at rows) → (at (removed rows v) a).card ≡ 0
      none a e = elim (ℕ_discrete (at (removed rows v) a).card 0) [
        | yes z ↦ z
        | no nz ↦
            let top : Formed (view_of (at rows)) (length rows) v = rw e (held_seen held) in
            absurd (removed_root top removed_is a (omega arith))
      ]

  -- every used record is of the table's kind
  pub removed_kind :
      (a : ℕ)
      → a < length rows
      → Used (at (removed rows v) a)
      → (at (removed rows v) a).kind ≡ kind_of (length rows) (at rows)
  unfolding W
  removed_kind a b u =
      (stays a u).kind ∙ sym (kind_of_is (length rows) (at rows) held.well_formed a b (rw (stays a u).card at u))

  -- and sound, if the table was
  pub removed_sound_table : SoundTable (length rows) (at rows) → SoundTable (length rows) (at (removed rows v))
  removed_sound_table ok =
      sound_at
      (kind_of (length rows) (at rows))
      removed_shaped
      removed_well_formed
      removed_kind
      (removed_sound (held_seen held) removed_is ok.sound)

  -- deleting the root leaves a free table
  pub removed_all : (at rows v).parent ≡ no_slot → used_in (length rows) (at (removed rows v)) ≡ 0
  removed_all e = elim (ℕ_discrete (used_in (length rows) (at (removed rows v))) 0) [
    | yes z ↦ z
    | no nz ↦
        let root = root_of_is (length rows) (at rows) held.well_formed (held_some held) in
        let same : v ≡ root_of (length rows) (at rows) =
        held.well_formed.one_root_lem v (root_of (length rows) (at rows)) (held_within held) root.0 held.used
        root.1 e root.2 in
        let top : Formed (view_of (at rows)) (length rows) v = rw same (held_seen held) in
        let z = used_in_some (length rows) (at (removed rows v)) (omega arith) in
        absurd (removed_root top removed_is z.0 z.2)
  ]

  -- otherwise the root stays the root
  pub removed_root_of :
      ((at rows v).parent ≡ no_slot → ⊥)
      → (1 ≤ used_in (length rows) (at (removed rows v)))
      × (root_of (length rows) (at (removed rows v)) ≡ root_of (length rows) (at rows))
  unfolding W
  removed_root_of ne =
      let n = length rows in
      let old = root_of_is n (at rows) held.well_formed (held_some held) in
      let r = root_of n (at rows) in
      let other : v ≡ r → ⊥ = λ e. ne (ap (λ (a : ℕ). (at rows a).parent) e ∙ old.2) in
      let u = (removed_formed (held_seen held) removed_is other).root_used in
      let some = used_in_seen n (at (removed rows v)) r old.0 u in
      let new = root_of_is n (at (removed rows v)) removed_well_formed some in (
        some,
        removed_well_formed.one_root_lem (root_of n (at (removed rows v))) r new.0 old.0 new.1 u new.2
            ((stays r u).parent ∙ old.2),
      )
