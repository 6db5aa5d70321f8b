-- `line::put_cut` meets its contract: the line is laid if it fits, and only then. Assumes nothing.
use Rattle.std.proofs.Common.{sym, ◌∙◌, arith}
use Rattle.line.specs.Line.{cut_of}
use Rattle.line.specs.Laws.{cut_length, into_room_fitted, no_room_fitted, same_fitted}
use Rattle.line.proofs.put_cut.Goals as goal

pub returns-then-out-places : goal.returns-then-out-places
returns-then-out-places c =
    let a = c.args in
    let long = cut_length a.left in
    sym (no_room_fitted (cut_of a.left) a.out.now (omega (arith, long, c.places.ensures.0)))

pub lay_cut-requires : goal.lay_cut-requires
lay_cut-requires c =
    let a = c.args in
    omega (arith, cut_length a.left, c.places.ensures.0)

pub returns : goal.returns
returns c =
    let a = c.args in
    let known = c.places.ensures.0 in
    let fits = into_room_fitted (cut_of a.left) a.out.now (omega (arith, cut_length a.left, known)) in
    same_fitted c.lay_cut.ensures.0 c.lay_cut.ensures.1 ∙ sym fits
