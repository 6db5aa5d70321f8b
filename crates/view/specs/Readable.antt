-- A table that was admitted, as the walks and the tree see it: it can be walked, and it has the form that the tree's
-- theorems speak of. Assumes nothing.
use Rattle.std.specs.Prelude.{ℕ, ◌≤◌, ◌<◌, ◌≡◌, List, Option, None, Some}
use Rattle.std.proofs.Common.{ap, arith}
use Rattle.std.proofs.Math.Decide.{ℕ_discrete}
use Rattle.table.specs.Record.{Record, record_of}
use Rattle.table.specs.Table.{records_in}
use Rattle.table.specs.Stands.{
  Stands,
  Walkable,
  WholeRecords,
  whole_are,
  are_whole,
  stands_in,
  right_are,
  right_most,
}
use Rattle.judge.specs.WellFormed.{WellFormed}
use Rattle.judge.specs.Decided.{formed_decided}
use Rattle.survey.specs.Survey.{used_in, root_of}
use Rattle.survey.specs.Laws.{used_in_seen, root_used}
use Rattle.survey.specs.Answers.{Tells, tells_some, tells_none}
use Rattle.judge.specs.Readable.{Readable}
use Rattle.places.specs.Cases.{either}
use Rattle.tree.specs.View.{Formed}
use Rattle.view.specs.View.{view_of}
use Rattle.view.specs.Shaped.{Shaped, shaped_bytes}
use Rattle.view.specs.Survey.{root_of_is}
use Rattle.view.specs.Formed.{formed_view, free_or_used}

-- a well-formed table of whole records can be walked
pub formed_walkable : (l : List ℕ) → WholeRecords l → WellFormed (records_in l) (record_of l) → Walkable l
formed_walkable l whole wf =
    let shape = shaped_bytes (records_in l) l (whole_are l whole) in
    record {
      whole = whole;
      few = λ s h. either
          (free_or_used shape wf.free_if_no_card s)
          (λ e. omega (arith, ap (λ (r : Record). r.count) e))
          (λ z. (wf.filled s z.0 z.1).count_to_8);
      stand = λ s i h b. either
          (free_or_used shape wf.free_if_no_card s)
          (λ e. absurd (omega (arith, ap (λ (r : Record). r.count) e)))
          (λ z. stands_in l _ (wf.owned s i z.0 z.1 b).child_in);
    }

module _ {l : List ℕ} (ok : Readable l) where
  pub readable_formed : WellFormed (records_in l) (record_of l)
  readable_formed = (formed_decided (records_in l) (record_of l)).shows ok.formed

  pub readable_shaped : Shaped (records_in l) (record_of l)
  readable_shaped = shaped_bytes (records_in l) l (right_are l ok.size)

  pub readable_walkable : Walkable l
  readable_walkable = formed_walkable l (are_whole l (records_in l) (right_are l ok.size)) readable_formed

  pub readable_seen :
      1 ≤ used_in (records_in l) (record_of l)
      → Formed (view_of (record_of l)) (records_in l) (root_of (records_in l) (record_of l))
  readable_seen = formed_view (right_most l ok.size) readable_shaped readable_formed

  -- the root of a used table stands in it
  pub readable_root :
      1 ≤ used_in (records_in l) (record_of l) → Stands l (root_of (records_in l) (record_of l))
  readable_root some =
      stands_in l (root_of (records_in l) (record_of l)) (root_of_is (records_in l) (record_of l) readable_formed
      some).0

  -- a root is told where a record is used, and nowhere else
  module _ {o : Option ℕ} (t : Tells (records_in l) (root_of (records_in l) (record_of l)) o) where
    pub rooted : {a : ℕ} → o ≡ Some a → 1 ≤ used_in (records_in l) (record_of l)
    rooted {a} e =
        let h = tells_some a t e in
        let below : root_of (records_in l) (record_of l) < records_in l = omega (arith, h.0, h.1) in
        used_in_seen (records_in l) (record_of l) _ below (root_used (records_in l) (record_of l) below)

    pub rootless : o ≡ None → used_in (records_in l) (record_of l) ≡ 0
    rootless e = elim (ℕ_discrete (used_in (records_in l) (record_of l)) 0) [
      | yes z ↦ z
      | no nz ↦
          let root = root_of_is (records_in l) (record_of l) readable_formed (omega arith) in
          absurd (omega (arith, tells_none t e, root.0))
    ]
