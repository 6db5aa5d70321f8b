-- `placing::hang` meets its contract: the walk, the host's new child and the newcomer's record make what the definition
-- hangs (`hung`). Assumes nothing.
use Rattle.std.proofs.Common.{arith}
use Rattle.std.proofs.lemmas.Option.{same_Some}
use Rattle.placing.proofs.Hung.{Walked, walk_over, slot_few, slot_still, host_few, host_stands, host_room, hung}
use Rattle.placing.proofs.hang.Goals.{After-descend-host}
use Rattle.placing.proofs.hang.Goals as goal

-- the walk ends at the host
over : (c : After-descend-host) →
    let a = c.args in
    let d = c.descend-host in
    Walked a.t.now a.tree.kind a.tree.arity a.s a.tree.root a.tree.depth d.new.t d.result.slot d.result.count
over c = let d = c.descend-host in
    let x = c.signature_of-x in
    walk_over c.requires x.result.readings d.auto.t x.ensures d.ensures.0

pub adopt-requires : goal.adopt-requires
adopt-requires c =
    let ok = c.requires in (
      host_stands ok (over (goal.at.adopt-requires c).After-descend-host),
      omega (arith, slot_few ok),
      host_room ok (over (goal.at.adopt-requires c).After-descend-host),
    )

pub seat-requires : goal.seat-requires
seat-requires c =
    let host = over (goal.at.seat-requires c).After-descend-host in (
      slot_still c.requires host c.adopt.ensures,
      λ p e. omega (arith, same_Some _ p e, host_few c.requires host),
    )

pub returns : goal.returns
returns c = (
  hung c.requires (over (goal.at.returns c).After-descend-host) c.args.timestamp c.adopt.ensures c.seat.ensures,
  c.descend-host.ensures.1,
)
