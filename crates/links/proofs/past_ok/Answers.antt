-- `links::past_ok` meets its contract: one number tells of four child slots whether those past the count are
-- 65,535. Assumes nothing.
use Rattle.std.specs.Prelude.{◌&&◌, leb, get_or}
use Rattle.std.proofs.Common.{◌∙◌, arith}
use Rattle.table.specs.Record.{record_of}
use Rattle.table.specs.Fitting.{record_fits}
use Rattle.links.specs.Floors.{first_floors, last_floors, past_told}
use Rattle.links.proofs.past_ok.Goals as goal

pub returns : goal.returns
returns c =
    let r = record_of c.args.t.now c.args.s in
    let known = c.type_inv.t in
    (λ i.
    leb (get_or first_floors (c.children_of-count.ensures i) 0) (c.four_slots.ensures i)
    && leb (get_or last_floors (c.children_of-count.ensures i) 0) (c.four_slots-2.ensures i))
    ∙ past_told r
    (λ i b. (record_fits c.args.t.now c.args.s (λ i. omega (arith, known i))).slots i)
    c.requires.1
