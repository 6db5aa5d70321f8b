-- All that waited are back: the rows are well formed, sound if those before were, and hold exactly what those before
-- held and what the waiting records brought (`put_back_returned`, `put_back_sound`, `returned_stored`). By induction on
-- those that wait. Assumes nothing.
use Rattle.std.specs.Prelude.{ℕ, ◌+◌, ◌≤◌, ◌≡◌, refl, ◌⊎◌, ◌↔◌, length}
use Rattle.std.proofs.Common.{sym, ◌∙◌, inl, inr}
use Rattle.std.proofs.Math.Path.{ap}
use mathlib.Core.List.Memᴰ
use mathlib.Core.List.Memᴰ.{head as first}
use mathlib.Core.List.Memᴰ.{tail as later}
use mathlib.Core.List.{List, [], ◌∷◌}
use native.Mathlib.Omega.{arith}
use Rattle.distance.specs.Kind.{apart}
use Rattle.refusals.specs.Limits.{most_records, most_children}
use Rattle.table.specs.Record.{Record}
use Rattle.table.specs.Table.{at}
use Rattle.judge.specs.WellFormed.{WellFormed}
use Rattle.survey.specs.Survey.{used_in, largest_timestamp}
use Rattle.survey.specs.Laws.{used_in_most}
use Rattle.places.specs.Cases.{either}
use Rattle.tree.specs.Slots.{◌∈◌, ∈_decide}
use Rattle.view.specs.Shaped.{Shaped}
use Rattle.view.specs.Sound.{SoundTable}
use Rattle.placing.specs.Place.{Placed, placed}
use Rattle.newcomer.specs.Newcomer.{Newcomer, brought, brought_is}
use Rattle.placing.specs.Place.Keeps.{placed_settled}
use Rattle.placing.specs.Stored.{Stored}
use Rattle.back.specs.Back.{one_back, put_back}
use Rattle.back.specs.Returnable.{
  Returnable,
  returnable_ready,
  returnable_next,
  returnable_largest,
  returnable_used_in,
  returnable_sound,
}

-- rows is base with the records that `old` has in the slots ss
pub record Returned (n : ℕ) (old base : List Record) (ss : List ℕ) (rows : List Record) : Type 0 where
  pub length_is : length rows ≡ n
  pub shaped : Shaped n (at rows)
  pub well_formed : WellFormed n (at rows)
  -- each that waited is in its own slot, as it was brought
  pub back : (s : ℕ) → s ∈ ss → brought (at rows s) ≡ brought (at old s)
  -- and so is every other
  pub kept : (a : ℕ) → (a ∈ ss → ⊥) → brought (at rows a) ≡ brought (at base a)

-- ---- what is back

module _ {n kind : ℕ} {old base rows : List Record} {ss : List ℕ}
    (r : Returnable n kind old base ss) (done : Returned n old base ss rows) where
  same_card : {x y : Newcomer} → x ≡ y → x.card ≡ y.card
  same_card e = ap (λ (z : Newcomer). z.card) e

  -- the stored cards are those before and those that waited, each with its kind and signature
  pub returned_stored :
      (x : Newcomer)
      → Stored n (at rows) x
      ↔ (Stored n (at base) x ⊎ ((s : ℕ) × s ∈ ss × (x ≡ brought (at old s))))
  returned_stored x = (
    λ z. elim (∈_decide z.0 ss) [
      | yes i ↦ inr (z.0, i, sym z.1.same ∙ done.back z.0 i)
      | no m ↦
          let same = done.kept z.0 m in
          inl (
            z.0,
            record {
              within = z.1.within;
              used = rw (same_card same) at z.1.used;
              same = sym same ∙ z.1.same;
            },
          )
    ],
    λ y. either y
        (λ z.
        let m : z.0 ∈ ss → ⊥ = λ i. omega (arith, r.slot_free z.0 i, z.1.used) in
        let same = done.kept z.0 m in
        (z.0, record { within = z.1.within; used = rw (same_card same) z.1.used; same = same ∙ z.1.same }))
        (λ z.
        let same = done.back z.0 z.1 in (
          z.0,
          record {
            within = r.slot_within z.0 z.1;
            used = rw (same_card same) (r.brings z.0 z.1).card_some;
            same = same ∙ sym z.2;
          },
        )),
  )

-- ---- all go back

module _ {n kind arity : ℕ} {old : List Record} (to_8 : arity ≤ most_children) where
  pub put_back_returned :
      (d : List ℕ → List ℕ → ℕ) (ss : List ℕ) (p : Placed)
      → Returnable n kind old p.rows ss
      → Returned n old p.rows ss (put_back d arity old ss p).rows
  unfolding put_back
  put_back_returned d [] p r =
      record {
        length_is = r.length_is;
        shaped = r.shaped;
        well_formed = r.well_formed;
        back = λ s i. absurd (Memᴰ.not-nil i);
        kept = λ a m. refl;
      }
  put_back_returned d (s ∷ ss) p r =
      let x = brought (at old s) in
      let next = (placed d arity s x p.rows).rows in
      let new = placed_settled d (returnable_ready to_8 r) in
      let rest = put_back_returned d ss (one_back d arity old s p) (returnable_next to_8 r d) in
      let here : brought (at next s) ≡ x =
      brought_is (at next s) x new.card_new new.kind_new new.readings_new in
      record {
        length_is = rest.length_is;
        shaped = rest.shaped;
        well_formed = rest.well_formed;
        back = λ a i. elim (∈_decide a ss) [
          | yes j ↦ rest.back a j
          | no m ↦
              let e : a ≡ s = only a i m in
              rest.kept a m ∙ ap (λ (j : ℕ). brought (at next j)) e ∙ here ∙ ap (λ (j : ℕ). brought (at old j)) (sym e)
        ];
        kept = λ a m.
            let k = new.kept a (λ e. m (first e)) in
            rest.kept a (λ i. m (later i))
            ∙ brought_is (at next a) (brought (at p.rows a)) k.card k.kind k.readings;
      }
    where
      only : (a : ℕ) → a ∈ (s ∷ ss) → (a ∈ ss → ⊥) → a ≡ s
      only a (first e) m = e
      only a (later i) m = absurd (m i)

  pub put_back_sound :
      (ss : List ℕ) (p : Placed)
      → Returnable n kind old p.rows ss
      → SoundTable n (at p.rows)
      → SoundTable n (at (put_back (apart kind) arity old ss p).rows)
  unfolding put_back
  put_back_sound [] p r ok = ok
  put_back_sound (s ∷ ss) p r ok =
      put_back_sound ss (one_back (apart kind) arity old s p) (returnable_next to_8 r (apart kind))
      (returnable_sound to_8 r ok)

  -- each gets the next timestamp
  pub put_back_largest :
      (d : List ℕ → List ℕ → ℕ) (ss : List ℕ) (p : Placed)
      → Returnable n kind old p.rows ss
      → largest_timestamp n (at (put_back d arity old ss p).rows) ≡ largest_timestamp n (at p.rows) + length ss
  unfolding put_back
  put_back_largest d [] p r = omega arith
  put_back_largest d (s ∷ ss) p r =
      omega (
        arith,
        put_back_largest d ss (one_back d arity old s p) (returnable_next to_8 r d),
        returnable_largest to_8 r d,
      )

  -- each is one record more
  pub put_back_used_in :
      (d : List ℕ → List ℕ → ℕ) (ss : List ℕ) (p : Placed)
      → Returnable n kind old p.rows ss
      → used_in n (at (put_back d arity old ss p).rows) ≡ used_in n (at p.rows) + length ss
  unfolding put_back
  put_back_used_in d [] p r = omega arith
  put_back_used_in d (s ∷ ss) p r =
      omega (
        arith,
        put_back_used_in d ss (one_back d arity old s p) (returnable_next to_8 r d),
        returnable_used_in to_8 r d,
      )

-- no more wait than a table has records
pub returnable_few : {n kind : ℕ} {old base : List Record} {ss : List ℕ}
    → Returnable n kind old base ss → length ss ≤ most_records
returnable_few {n} {kind} {old} {base} {ss} r =
    let d = apart kind in
    let start : Placed = record { rows = base; count = 0 } in
    omega (
      arith,
      put_back_used_in {arity = 1} (omega arith) d ss start r,
      used_in_most n (at (put_back d 1 old ss start).rows),
      r.small,
    )
