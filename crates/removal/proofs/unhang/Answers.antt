-- `removal::unhang` meets its contract, whether the record has a parent or is the root. Assumes nothing.
use Rattle.std.specs.Prelude.{◌≡◌, refl, length}
use Rattle.std.proofs.Common.{ap, ◌∙◌, arith}
use Rattle.table.specs.Record.{free, no_slot}
use Rattle.table.specs.Table.{records_of}
use Rattle.table.specs.Stands.{Stands, stands_same}
use Rattle.writing.specs.Laws.{Became, put_free, became_by}
use Rattle.removal.specs.Removal.{unhung}
use Rattle.removal.specs.Lent.{held_stands, rooted, parent_stands, parent_hosts, disowned, unhung_freed}
use Rattle.removal.proofs.unhang.Goals.{After-clear_record, Joined-parent_of, in-Some, in_default}
use Rattle.removal.proofs.unhang.Goals as goal

without : (c : Joined-parent_of) →
    let a = c.args in
    (length c.match-parent_of.t ≡ length a.t.now) × (records_of c.match-parent_of.t ≡ unhung a.v (records_of a.t.now))
without c = let l = c.args.t.now in
    elim c.match-parent_of.branch [
      | in-Some w ↦ (
        ap length w.t-is ∙ w.disown.ensures.same_length,
        ap records_of w.t-is
            ∙ disowned l c.requires w.in-Some.p w.in-Some.ensures.0
            (λ e. omega (arith, e, w.in-Some.ensures.1)) w.disown.ensures,
      )
      | in_default w ↦ (
        ap length w.t-is,
        ap records_of w.t-is ∙ rooted l c.requires no_slot w.in_default.ensures.0 refl,
      )
    ]

stands : (c : Joined-parent_of) → Stands c.match-parent_of.t c.args.v
stands c = stands_same c.args.t.now c.match-parent_of.t (without c).0 c.args.v (held_stands c.args.t.now c.requires)

gone : (c : After-clear_record) →
    Became c.match-parent_of.t c.args.v free c.clear_record.new.t
gone c = became_by (put_free c.match-parent_of.t c.args.v (stands c.before.before)) refl c.clear_record.ensures

pub parent_of-requires : goal.parent_of-requires
parent_of-requires c = held_stands c.args.t.now c.requires

pub disown-requires : goal.disown-requires
disown-requires c =
    let l = c.args.t.now in
    let p = c.in-Some.p in
    let told = c.in-Some.ensures in
    let some : p ≡ no_slot → ⊥ = λ e. omega (arith, e, told.1) in
    (parent_stands l c.requires p told.0 some, parent_hosts l c.requires p told.0 some)

pub clear_record-requires : goal.clear_record-requires
clear_record-requires c = stands (goal.at.clear_record-requires c).Joined-parent_of

pub returns : goal.returns
returns c =
    let at = goal.at.returns c in
    unhung_freed c.args.t.now c.requires (without at.Joined-parent_of).1 (gone at.After-clear_record)
