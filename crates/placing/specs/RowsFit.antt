-- A placing leaves fields that fit their bytes, so the bytes afterwards hold exactly the records that the rule gives
-- (`rows_back` of the table). The key idea: well-formedness and the clock bound all but the card, the covering radius
-- and the signature, and no radius passes what it was or the farthest distance. Assumes nothing.
use Rattle.std.specs.Prelude.{ℕ, ◌+◌, ◌^◌, ◌≤◌, ◌<◌, ◌≡◌, refl, List, [], set}
use Rattle.std.proofs.Math.Path.{ap}
use Rattle.std.proofs.Common.{◌∙◌, arith, get_or-set_other}
use Rattle.std.proofs.Math.Decide.{ℕ_discrete}
use Rattle.std.proofs.Math.ListN.{length, get_or-eq_default}
use Rattle.std.proofs.Math.Seq.{get_or-set_same}
use Rattle.distance.specs.Signature.{Fit}
use Rattle.distance.specs.Kind.{apart, apart_distance, known_between}
use Rattle.table.specs.Record.{Record, Used, free, slot, no_slot}
use Rattle.table.specs.Table.{at}
use Rattle.places.specs.Cases.{below_or, either}
use Rattle.table.specs.Same.{past_free}
use Rattle.table.specs.Fitting.{Fitting, FittingRow, record_fits}
use Rattle.survey.specs.Survey.{used_in, largest_timestamp}
use Rattle.survey.specs.Laws.{largest_late}
use Rattle.tree.specs.Slots.{∈_decide}
use Rattle.view.specs.Formed.{free_or_used}
use Rattle.placing.specs.Place.{Placed, as_root, placed}
use Rattle.newcomer.specs.Newcomer.{Newcomer, fresh}
use Rattle.placing.specs.Place.Settled.{Ready, Settled, settled_largest}
use Rattle.placing.specs.Place.Child.{visited}
use Rattle.placing.specs.Place.Keeps.{placed_root, placed_inserted, placed_settled}
use Rattle.refusals.specs.Limits.{last_timestamp, most_children}

pub fitting_free : Fitting free
fitting_free = rw (past_free [] 0 (omega arith)) at (record_fits [] 0 (λ i. omega arith))

module _ {n arity s : ℕ} {x : Newcomer} {rows : List Record} (ready : Ready n arity s x rows) (fits : FittingRow rows)
    (card : x.card < 256 ^ 4) (fit : Fit x.readings) (clock : largest_timestamp n (at rows) < last_timestamp) where
  abbrev d : List ℕ → List ℕ → ℕ
  d = apart x.kind

  abbrev S : ℕ → Record
  S = at (placed d arity s x rows).rows

  new : Settled n s (largest_timestamp n (at rows) + 1) x (at rows) S
  new = placed_settled d ready

  was : (a : ℕ) → a < n → Fitting (at rows a)
  was a h = fits a (omega (arith, ready.length_is))

  -- no radius passes what it was or the farthest distance
  radius_fits : (a : ℕ) → a < n → (S a).radius < 256 ^ 4
  unfolding as_root fresh
  radius_fits a h = elim (ℕ_discrete (used_in n (at rows)) 0) [
    | yes none ↦
        let e : S a ≡ at (set rows s (fresh x (largest_timestamp n (at rows) + 1) no_slot)) a =
        ap (λ (p : Placed). at p.rows a) (placed_root d ready none) in
        rw e (rooted (ℕ_discrete a s))
    | no some ↦ hung (omega arith)
  ]
    where
      rooted : Dec (a ≡ s) → (at (set rows s (fresh x (largest_timestamp n (at rows) + 1) no_slot)) a).radius < 256 ^ 4
      rooted (yes e) =
          let inside : s < length rows = omega (arith, ready.slot_within, ready.length_is) in
          rw (e, get_or-set_same rows s (fresh x (largest_timestamp n (at rows) + 1) no_slot) free inside) (omega arith)
      rooted (no ne) =
          rw (get_or-set_other rows s a (fresh x (largest_timestamp n (at rows) + 1) no_slot) free ne) (was a h).radius

      hung : 1 ≤ used_in n (at rows) → (S a).radius < 256 ^ 4
      hung some =
          let done = placed_inserted d ready some in
          elim (ℕ_discrete a s) [
            | yes e ↦ omega (arith, ap (λ (i : ℕ). (S i).radius) e, done.radius_new)
            | no ne ↦ elim (∈_decide a (visited d arity n x rows)) [
              | no off ↦ omega (arith, done.radius_old a ne off, (was a h).radius)
              | yes on ↦
                  omega (
                    arith,
                    done.radius_path a on,
                    (was a h).radius,
                    (apart_distance x.kind).at_most (at rows a).readings x.readings (was a h).readings fit,
                  )
            ]
          ]

  card_fits : (a : ℕ) → a < n → (S a).card < 256 ^ 4
  card_fits a h = elim (ℕ_discrete a s) [
    | yes e ↦ omega (arith, ap (λ (i : ℕ). (S i).card) e, new.card_new)
    | no ne ↦ omega (arith, (new.kept a ne).card, (was a h).card)
  ]

  readings_fit : (a : ℕ) → a < n → Fit (S a).readings
  readings_fit a h = elim (ℕ_discrete a s) [
    | yes e ↦ let q : (S a).readings ≡ x.readings = ap (λ (i : ℕ). (S i).readings) e ∙ new.readings_new in rw q fit
    | no ne ↦ rw (new.kept a ne).readings (was a h).readings
  ]

  -- the child slots and the parent's slot are slots of the table, or 65,535
  used_fits : (a : ℕ) → a < n → Used (S a) → Fitting (S a)
  used_fits a h u =
      let wf = new.well_formed in
      let filled = wf.filled a h u in
      record {
        card = card_fits a h;
        timestamp = omega (arith, clock, largest_late n S a h u, settled_largest ready new refl);
        radius = radius_fits a h;
        parent = elim (ℕ_discrete (S a).parent no_slot) [
          | yes e ↦ omega arith
          | no ne ↦ omega (arith, (wf.hung a h u ne).parent_in, ready.small)
        ];
        count = omega (arith, filled.count_to_8);
        kind = (known_between (S a).kind filled.kind_known).1;
        eight = new.shaped.eight a;
        slots = λ i. below_or
            i
            (S a).count
            (λ b. omega (arith, (wf.owned a i h u b).child_in, ready.small))
            (λ b. below_or i most_children (λ k. omega (arith, filled.past_count i b k)) (λ k. past i k));
        sixteen = new.shaped.sixteen a;
        readings = readings_fit a h;
      }
    where
      past : (i : ℕ) → most_children ≤ i → slot (S a) i < 65536
      past i k =
          let e : slot (S a) i ≡ 0 = get_or-eq_default (S a).slots 0 (omega (arith, new.shaped.eight a)) in
          omega (arith, e)

  pub placed_fits : FittingRow (placed d arity s x rows).rows
  placed_fits a h =
      either
      (free_or_used new.shaped new.well_formed.free_if_no_card a)
      (λ e. rw e fitting_free)
      (λ z. used_fits a z.0 z.1)
