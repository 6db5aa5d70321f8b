-- A newcomer hung on a record of the row is an insertion as the tree knows it (`hanging_inserted`), whatever the walk p
-- and the host `on`, if the host has room, and the slot s is neither the host nor on the walk. Assumes nothing.
use Rattle.std.specs.Prelude.{ℕ, ◌<◌, ◌≡◌, List, [], ◌∷◌, ◌++◌, length}
use Rattle.std.proofs.Common.{sym, ◌∙◌, arith}
use Rattle.std.proofs.Math.Path.{ap}
use Rattle.std.proofs.Math.Decide.{ℕ_discrete}
use Rattle.std.proofs.Math.ListN.{set, length-set}
use Rattle.std.proofs.Math.Seq.{get_or-set_same, get_or-set_other}
use Rattle.table.specs.Record.{Record, free, children}
use Rattle.table.specs.Table.{at}
use Rattle.tree.specs.Slots.{◌∈◌}
use Rattle.tree.specs.Insert.{Inserted}
use Rattle.view.specs.View.{view_of}
use Rattle.descent.specs.Descent.{raised_along}
use Rattle.placing.specs.Place.{hanging_from}
use Rattle.newcomer.specs.Newcomer.{Newcomer, fresh, adopting}
use Rattle.newcomer.specs.Kept.{Kept, Still, still_self, kept_adopting, adopting_children}
use Rattle.placing.specs.Place.Row.{along_length, along_still, along_other, along_radius}

module _ (d : List ℕ → List ℕ → ℕ) (arity s : ℕ) (x : Newcomer) (rows : List Record) (t on : ℕ) (p : List ℕ) where
  -- the records with the radii raised, and those afterwards
  unfoldable pub high : ℕ → Record
  high = at (raised_along d x.readings p rows)

  unfoldable pub after : ℕ → Record
  after = at (hanging_from d arity s x rows t on p).rows

  pub after_length : length (hanging_from d arity s x rows t on p).rows ≡ length rows
  unfolding hanging_from
  after_length =
      let raise = raised_along d x.readings p rows in
      length-set (set raise on (adopting s (at raise on))) s (fresh x t on)
      ∙ length-set raise on (adopting s (at raise on))
      ∙ along_length d x.readings p rows

  pub high_still : (a : ℕ) → Still (at rows a) (high a)
  unfolding high
  high_still a = along_still d x.readings p rows (at rows a) a (still_self (at rows a))

  module _ (slot_in : s < length rows) (host-in : on < length rows) (apart : on ≡ s → ⊥) where
    -- ---- the record in each slot

    pub after_new : after s ≡ fresh x t on
    unfolding after hanging_from
    after_new =
        let raise = raised_along d x.readings p rows in
        let both = set raise on (adopting s (at raise on)) in
        get_or-set_same both s (fresh x t on) free
        (omega (arith, length-set raise on (adopting s (at raise on)), along_length d x.readings p rows))

    pub after_on : after on ≡ adopting s (high on)
    unfolding after high hanging_from
    after_on =
        let raise = raised_along d x.readings p rows in
        let both = set raise on (adopting s (at raise on)) in
        get_or-set_other both s on (fresh x t on) free apart
        ∙ get_or-set_same raise on (adopting s (at raise on)) free (omega (arith, along_length d x.readings p rows))

    pub after_other : (a : ℕ) → (a ≡ s → ⊥) → (a ≡ on → ⊥) → after a ≡ high a
    unfolding after high hanging_from
    after_other a ns no' =
        let raise = raised_along d x.readings p rows in
        let both = set raise on (adopting s (at raise on)) in
        get_or-set_other both s a (fresh x t on) free ns
        ∙ get_or-set_other raise on a (adopting s (at raise on)) free no'

    -- ---- what is kept

    pub after_kept : (a : ℕ) → (a ≡ s → ⊥) → Kept (at rows a) (after a)
    after_kept a ns = elim (ℕ_discrete a on) [
      | yes e ↦ rw (e, after_on) (kept_adopting (at rows on) (high on) s (high_still on).kept)
      | no no' ↦ rw (after_other a ns no') (high_still a).kept
    ]

    after_radius : (a : ℕ) → (a ≡ s → ⊥) → (after a).radius ≡ (high a).radius
    unfolding adopting
    after_radius a ns = elim (ℕ_discrete a on) [
      | yes e ↦
          ap (λ (i : ℕ). (after i).radius) e
          ∙ ap (λ (r : Record). r.radius) after_on
          ∙ ap (λ (i : ℕ). (high i).radius) (sym e)
      | no no' ↦ ap (λ (r : Record). r.radius) (after_other a ns no')
    ]

    high_children : (a : ℕ) → children (high a) ≡ children (at rows a)
    high_children a = let h = high_still a in rw (h.count, h.slots)

    -- ---- as the tree knows it

    module _ (room : (at rows on).count < length (at rows on).slots) (off : s ∈ p → ⊥)
        (walk-in : (a : ℕ) → a ∈ p → a < length rows) where
      children_more : children (after on) ≡ children (at rows on) ++ (s ∷ [])
      children_more =
          let h = high_still on in
          let fits : (high on).count < length (high on).slots = rw (h.count, h.slots) room in
          ap children after_on
          ∙ adopting_children s (high on) fits
          ∙ ap (λ (l : List ℕ). l ++ (s ∷ [])) (high_children on)

      pub hanging_inserted : Inserted d (view_of (at rows)) (view_of after) x.card x.readings s t on p
      unfolding fresh high
      hanging_inserted =
          record {
            card_new = ap (λ (r : Record). r.card) after_new;
            timestamp_new = ap (λ (r : Record). r.timestamp) after_new;
            radius_new = ap (λ (r : Record). r.radius) after_new;
            parent_new = ap (λ (r : Record). r.parent) after_new;
            children_new = ap children after_new;
            signature_new = ap (λ (r : Record). r.readings) after_new;
            children_on = children_more;
            radius_path = λ a i.
                after_radius a (λ e. off (rw e at i)) ∙ along_radius d x.readings p rows a i (walk-in a i);
            card_old = λ a ns. (after_kept a ns).card;
            timestamp_old = λ a ns. (after_kept a ns).timestamp;
            radius_old =
                λ a ns m.
                after_radius a ns ∙ ap (λ (r : Record). r.radius) (along_other d x.readings p rows a m);
            parent_old = λ a ns. (after_kept a ns).parent;
            children_old = λ a ns no'. ap children (after_other a ns no') ∙ high_children a;
            signature_old = λ a ns. (after_kept a ns).readings;
          }
