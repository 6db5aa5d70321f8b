-- What insert promises, of its outcome for every input. The arguments are numbers of their types: the table and the
-- signature are bytes, and the card is a 32-bit number. Assumes nothing.
use Rattle.std.specs.Prelude.{ℕ, ◌+◌, ◌^◌, ◌≤◌, ◌<◌, ◌≡◌, Bool, ◌⊎◌, ◌↔◌, List}
use Rattle.std.proofs.Math.Path.{refl, sym, ap}
use Rattle.std.proofs.Common.{◌∙◌, subst, arith}
use Rattle.std.proofs.Math.Bool.{true, false}
use Rattle.std.proofs.Math.Dec.{eqb}
use Rattle.std.proofs.Math.ListN.{length}
use borrow.Author.Tests.{eqb-true, eq-eqb}
use Rattle.places.specs.Choice.{pick}
use Rattle.number.specs.Frame.{Bytes}
use Rattle.distance.specs.Signature.{readings_at, readings_fit}
use Rattle.distance.specs.Kind.{apart}
use Rattle.table.specs.Record.{Record, record_of}
use Rattle.table.specs.Table.{records_in, records_of, at}
use Rattle.table.specs.Records.{records_length}
use Rattle.table.specs.Size.{rows_are}
use Rattle.table.specs.RoundTrip.{row_fits, rows_back}
use Rattle.judge.specs.WellFormed.{WellFormed}
use Rattle.survey.specs.Survey.{used_in, root_of, lowest_free, largest_timestamp}
use Rattle.tree.specs.Insert.{IsWalk, last}
use Rattle.view.specs.View.{view_of}
use Rattle.refusals.specs.Refusal.{done}
use Rattle.view.specs.Sound.{SoundTable}
use Rattle.placing.specs.Stored.{Stored, settled_stored}
use Rattle.placing.specs.Place.{placed, hanging_from}
use Rattle.placing.specs.Place.Text as Text
use Rattle.placing.specs.Place.Text.{placed_text}
use Rattle.newcomer.specs.Newcomer.{Newcomer}
use Rattle.placing.specs.Place.Settled.{Ready}
use Rattle.placing.specs.Place.Keeps.{placed_length, placed_settled, placed_sound_table}
use Rattle.insert.specs.Insert.{refusal_of, inserted, insert_of}
use Rattle.placing.specs.Changed.{changed}
use Rattle.refusals.specs.Outcome.{Outcome, refused}
use Rattle.refusals.specs.Limits.{last_timestamp}
use Rattle.insert.specs.Accepted.{comer, accepted_readable, accepted_ready, accepted_clock}
use Rattle.placing.specs.RowsFit.{placed_fits}

-- the record in each slot of a table
abbrev pub table_of : List ℕ → ℕ → Record
table_of l = at (records_of l)

module _ (l : List ℕ) (card kind arity : ℕ) (s : List ℕ) where
  -- the call is accepted, and the table that it leaves
  abbrev pub Accepted : Type 0
  Accepted = (insert_of l card kind arity s).refusal ≡ done

  abbrev pub after : List ℕ
  after = (insert_of l card kind arity s).table

  -- the outcome, by the test that no refusal is given
  abbrev ends : Bool → Outcome
  ends b = pick b (changed (inserted l card kind arity s)) (refused (refusal_of l card kind arity s) l)

  -- ---- refused

  -- "A refusal returns zero counts and touches nothing lent"
  pub refused_touches_nothing : (Accepted → ⊥) → ((insert_of l card kind arity s).count ≡ 0) × (after ≡ l)
  unfolding insert_of refused changed
  refused_touches_nothing = go (eqb (refusal_of l card kind arity s) done)
    where
      go : (b : Bool) → ((ends b).refusal ≡ done → ⊥) → ((ends b).count ≡ 0) × ((ends b).table ≡ l)
      go true n = absurd (n refl)
      go false n = (refl, refl)

  -- ---- accepted

  module _ (accepted : Accepted) where
    none : refusal_of l card kind arity s ≡ done
    unfolding insert_of refused changed
    none = go (eqb (refusal_of l card kind arity s) done) refl accepted
      where
        go :
            (b : Bool)
            → eqb (refusal_of l card kind arity s) done ≡ b
            → (ends b).refusal ≡ done
            → refusal_of l card kind arity s ≡ done
        go true e r = eqb-true (refusal_of l card kind arity s) done e
        go false e r = r

    outcome : insert_of l card kind arity s ≡ changed (inserted l card kind arity s)
    unfolding insert_of
    outcome = rw (eq-eqb (refusal_of l card kind arity s) done none)

    abbrev n : ℕ
    n = records_in l

    ready : Ready n arity (lowest_free n (record_of l)) (comer card kind s) (records_of l)
    ready = accepted_ready l card kind arity s none

    -- ---- the paper's text, with no word of depth: w is any walk that obeys it, and there is one

    -- the record of a used table hangs below the last record that the walk visits from the root
    pub inserted_text :
        1 ≤ used_in n (table_of l)
        → (w : ℕ → List ℕ)
        → IsWalk (apart kind) (view_of (table_of l)) (readings_at s 0) arity w
        → inserted l card kind arity s
        ≡ hanging_from
        (apart kind)
        arity
        (lowest_free n (record_of l))
        (comer card kind s)
        (records_of l)
        (largest_timestamp n (table_of l) + 1)
        (last (root_of n (table_of l)) (w (root_of n (table_of l))))
        (w (root_of n (table_of l)))
    unfolding inserted
    inserted_text some w is = placed_text (apart kind) ready some w is

    pub text_walks :
        1 ≤ used_in n (table_of l)
        → (w : ℕ → List ℕ) × IsWalk (apart kind) (view_of (table_of l)) (readings_at s 0) arity w
    text_walks some = Text.text_walks (apart kind) ready some

    clock : largest_timestamp n (table_of l) < last_timestamp
    clock =
        subst
        (λ (R : ℕ → Record). largest_timestamp n R < last_timestamp)
        (sym (rows_are l (accepted_readable l card kind arity s none).size))
        (accepted_clock l card kind arity s none)

    module _ (bytes : Bytes l) (signature : Bytes s) (number : card < 2 ^ 32) where
      -- the bytes afterwards hold the records that the rule gives
      pub holds_placed : records_of after ≡ (inserted l card kind arity s).rows
      unfolding changed inserted
      holds_placed =
          let rows =
          (placed (apart kind) arity (lowest_free n (record_of l)) (comer card kind s) (records_of l)).rows in
          let fits = placed_fits ready (row_fits l bytes) (omega arith) (readings_fit s 0 signature) clock in
          ap (λ (o : Outcome). records_of o.table) outcome ∙ rows_back rows fits

      pub keeps_size : records_in after ≡ records_in l
      unfolding inserted
      keeps_size = sym (records_length after) ∙ ap length holds_placed ∙ placed_length (apart kind) ready

      -- a well-formed table stays well formed; no other is accepted
      pub keeps_formed : WellFormed (records_in l) (table_of after)
      unfolding inserted
      keeps_formed = rw holds_placed (placed_settled (apart kind) ready).well_formed

      -- a sound table stays sound, from the four laws alone, whatever the arity
      pub keeps_sound : SoundTable (records_in l) (table_of l) → SoundTable (records_in l) (table_of after)
      unfolding inserted
      keeps_sound ok = rw holds_placed (placed_sound_table ready ok)

      -- the stored cards are the card with its kind and signature, and those before
      pub stores :
          (x : Newcomer)
          → Stored (records_in l) (table_of after) x ↔ (x ≡ comer card kind s) ⊎ Stored (records_in l) (table_of l) x
      unfolding inserted
      stores x = rw holds_placed (settled_stored ready (placed_settled (apart kind) ready) x)
