-- `waiting::lower_bound` meets its contract: what its calls answer, put together. Assumes nothing.
use Rattle.std.specs.Prelude.{◌≡◌}
use Rattle.std.proofs.Common.{◌∙◌}
use Rattle.table.specs.Record.{record_of}
use Rattle.waiting.specs.Front.{lower_from}
use Rattle.waiting.specs.Laws.{lower_reads, lower_fits}
use Rattle.waiting.proofs.lower_bound.Goals.{After-max-2}
use Rattle.waiting.proofs.lower_bound.Goals as goal

worked_out : (c : After-max-2)
    → let a = c.args in
    c.max-2.result ≡ lower_from (record_of a.t.now a.s) a.p a.near a.away
worked_out c = let a = c.args in
    lower_reads
    (record_of a.t.now a.s)
    a.p
    a.near
    a.away
    _
    _
    _
    (c.from-radius.ensures ∙ c.radius_of.ensures)
    c.saturating_sub-2.ensures
    c.saturating_sub.ensures
    c.max.ensures
    c.max-2.ensures

pub returns : goal.returns
returns c =
    let r = record_of c.args.t.now c.args.s in (
      worked_out (goal.at.returns c).After-max-2,
      rw (worked_out (goal.at.returns c).After-max-2) (lower_fits r c.args.p c.args.near c.args.away c.requires.1
          c.requires.2),
    )
