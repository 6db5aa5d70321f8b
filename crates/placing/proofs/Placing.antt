-- A newcomer's card written into its slot and then hung makes what the definition places (`placed_first`,
-- `placed_later`). The key idea: the definition places into rows in which the slot is free; nothing links to a free
-- slot, so no walk looks at it. Assumes nothing.
use Prim.Native.Nat.{ℕ, ◌+◌, ◌≤◌}
use mathlib.Core.Path.{◌≡◌, sym, ap, ◌∙◌, subst}
use mathlib.Core.List.{List}
use Rattle.std.specs.Prelude.{None, Some}
use native.Mathlib.Omega.{arith}
use native.Mathlib.Decide.{ℕ_discrete}
use lib.ListN.{length, set, length-set}
use lib.Seq.{ext_get_or, get_or-set_other}
use borrow.Author.Tests.{ne_eqb}
use Rattle.distance.specs.Kind.{apart}
use Rattle.table.specs.Record.{Record, free, record_of, no_slot}
use Rattle.table.specs.Table.{records_in, records_of, at}
use Rattle.table.specs.Records.{records_at}
use Rattle.table.specs.Size.{rows_are}
use Rattle.writing.specs.Laws.{Became, became_then}
use Rattle.judge.specs.WellFormed.{WellFormed}
use Rattle.judge.specs.Decided.{formed_decided}
use Rattle.judge.specs.Readable.{Readable}
use Rattle.survey.specs.declared.Findings.{Findings}
use Rattle.survey.specs.Survey.{used_in, root_of}
use Rattle.survey.specs.Answers.{Answers, tells_some}
use Rattle.tree.specs.View.{Formed}
use Rattle.view.specs.View.{view_of}
use Rattle.view.specs.Formed.{formed_view}
use Rattle.newcomer.specs.Newcomer.{brought, Newcomer, fresh, named}
use Rattle.placing.specs.Place.{Placed, as_root, hanging, placed}
use Rattle.placing.specs.Place.Agree.{Agree, Unlinked, hanging_agree, hanging_count}
use Rattle.placing.specs.Place.Settled.{not_new}
use Rattle.table.specs.Stands.{
  Stands,
  stands_in,
  stands_same,
  walkable_same,
  right_are,
  right_most,
  right_whole,
  are_same,
  are_large,
  whole_same,
}
use Rattle.placing.specs.Hangable.{Hangable}
use Rattle.placing.specs.HangableFrom.{hangable}
use Rattle.view.specs.Readable.{readable_walkable, rooted, rootless}
use Rattle.placing.specs.Placeable.{Placeable}

module _ {l : List ℕ} {s : ℕ} {f : Findings} {x : Newcomer} {arity : ℕ} (ok : Placeable l s f x arity) where
  abbrev n : ℕ
  n = records_in l

  abbrev rows : List Record
  rows = records_of l

  abbrev next : ℕ
  next = f.largest + 1

  -- the survey's answers, of the rows
  answers : Answers n (at rows) f
  answers = subst (λ (R : ℕ → Record). Answers n R f) (sym (rows_are l ok.size)) ok.answers

  pub slot_stands : Stands l s
  slot_stands = stands_in l s ok.ready.slot_within

  readable : Readable l
  readable =
      record {
        size = ok.size;
        formed =
            (formed_decided n (record_of l)).passes
            (subst (WellFormed n) (rows_are l ok.size) ok.ready.well_formed);
      }

  -- the definition, by the survey's answers
  pub found_root : f.root ≡ None → placed (apart x.kind) arity s x rows ≡ as_root (apart x.kind) arity s x rows next
  unfolding placed
  found_root e =
      rw (ok.ready.length_is, ← answers.used, ok.answers.used, rootless readable ok.answers.root e, answers.largest)

  module _ {root : ℕ} (e : f.root ≡ Some root) where
    some : 1 ≤ used_in n (at rows)
    some = omega (arith, answers.used, ok.answers.used, rooted readable ok.answers.root e)

    root_is : root ≡ root_of n (at rows)
    root_is = (tells_some root answers.root e).0

    pub found_hanging : placed (apart x.kind) arity s x rows ≡ hanging (apart x.kind) arity s x rows next f.used root
    unfolding placed
    found_hanging =
        rw (
          ok.ready.length_is,
          ← answers.used,
          ne_eqb f.used 0 (λ z. omega (arith, z, answers.used, some)),
          answers.largest,
          root_is,
        )

  -- ---- the card is written

  module _ {m : List ℕ} (written : Became l s (named x.card x.kind x.readings (record_of l s)) m) where
    pub named_stands : Stands m s
    named_stands = stands_same l m written.same_length s slot_stands

    pub named_newcomer : brought (record_of m s) ≡ x
    named_newcomer = ap brought written.here

    -- the root of a free table
    pub placed_first :
        {j : List ℕ}
        → f.root ≡ None
        → Became m s (fresh (brought (record_of m s)) next no_slot) j
        → ◌≡◌ {A = Placed} (record { rows = records_of j; count = 0 }) (placed (apart x.kind) arity s x rows)
    unfolding as_root
    placed_first e seated =
        let same = ap (λ (y : Newcomer). set rows s (fresh y next no_slot)) named_newcomer in
        ap
        (λ (rs : List Record). record { rows = rs; count = 0 })
        ((became_then written seated).records ∙ same)
        ∙ sym (found_root e)

    -- ---- nothing links to the slot

    abbrev waits : ℕ → Type 0
    waits a = a ≡ s

    agree : Agree waits (records_of m) rows
    agree =
        let r = named x.card x.kind x.readings (record_of l s) in
        record {
          long = ap length written.records ∙ length-set rows s r;
          same = λ a ne. ap (λ (rs : List Record). at rs a) written.records ∙ get_or-set_other rows s a r free ne;
        }

    module _ {root : ℕ} (told : f.root ≡ Some root) where
      formed : Formed (view_of (at rows)) n (root_of n (at rows))
      formed = formed_view ok.ready.small ok.ready.shaped ok.ready.well_formed (some told)

      unlinked : Unlinked waits rows (root_of n (at rows))
      unlinked =
          record {
            root_stays = not_new ok.ready (root_of n (at rows)) formed.root_used;
            children_stay = λ a b _ i. not_new ok.ready b (formed.child_used a b i);
          }

      pub named_hangable : Hangable m x.kind arity s root f.used
      named_hangable =
          let many = are_same l m written.same_length n (right_are l ok.size) in
          rw (root_is told, answers.used)
          (hangable
          x.kind
          arity
          s
          rows
          waits
          (walkable_same written.same_length counts slots (readable_walkable readable))
          (are_large m n many (right_most l ok.size))
          named_stands
          ok.ready.arity_to_8
          agree
          ok.ready.length_is
          ok.ready.small
          ok.ready.shaped
          ok.ready.well_formed
          (some told)
          unlinked)
        where
          counts : (a : ℕ) → (record_of m a).count ≡ (record_of l a).count
          counts a = elim (ℕ_discrete a s) [
            | yes e ↦
                ap (λ (i : ℕ). (record_of m i).count) e
                ∙ ap (λ (r : Record). r.count) written.here
                ∙ ap (λ (i : ℕ). (record_of l i).count) (sym e)
            | no ne ↦ ap (λ (r : Record). r.count) (written.elsewhere a ne)
          ]

          slots : (a : ℕ) → (record_of m a).slots ≡ (record_of l a).slots
          slots a = elim (ℕ_discrete a s) [
            | yes e ↦
                ap (λ (i : ℕ). (record_of m i).slots) e
                ∙ ap (λ (r : Record). r.slots) written.here
                ∙ ap (λ (i : ℕ). (record_of l i).slots) (sym e)
            | no ne ↦ ap (λ (r : Record). r.slots) (written.elsewhere a ne)
          ]

      same_hanging :
          hanging (apart x.kind) arity s x (records_of m) next f.used root
          ≡ hanging (apart x.kind) arity s x rows next f.used root
      same_hanging =
          let u : Unlinked waits rows root = rw (root_is told) unlinked in
          let count =
          hanging_count (apart x.kind) arity s x next f.used root waits (records_of m) rows agree u in
          let both =
          hanging_agree (apart x.kind) arity s x next f.used root waits (records_of m) rows agree u
          (omega (arith, ok.ready.slot_within, ok.ready.length_is))
          (omega (arith, answers.used, some told)) in
          let same : (hanging (apart x.kind) arity s x (records_of m) next f.used root).rows
          ≡ (hanging (apart x.kind) arity s x rows next f.used root).rows =
          ext_get_or free _ _ both.long (λ a _. both.same a (λ z. z.1 z.0)) in
          λ i. record { rows = same i; count = count i }

      -- below the record on which it hangs
      pub placed_later :
          (p : Placed)
          → p ≡ hanging (apart x.kind) arity s (brought (at (records_of m) s)) (records_of m) next f.used root
          → p ≡ placed (apart x.kind) arity s x rows
      placed_later p e =
          let even = whole_same l m written.same_length (right_whole l ok.size) in
          let comes : brought (at (records_of m) s) ≡ x = ap brought (records_at m even s) ∙ named_newcomer in
          e
          ∙ ap (λ (y : Newcomer). hanging (apart x.kind) arity s y (records_of m) next f.used root) comes
          ∙ same_hanging
          ∙ sym (found_hanging told)
