-- `inventory::one::tell` meets its contract: the row is too short, or the readings that are put into it are the
-- signature's bytes from its start on. Assumes nothing.
use Rattle.std.proofs.Common.{arith}
use Rattle.table.specs.Record.{record_of}
use Rattle.table.specs.Same.{readings_length_of}
use Rattle.inventory.specs.Tests.{telling_short, telling_done}
use Rattle.inventory.proofs.one.tell.Goals as goal

pub returns-then-row-lt-SIGNATURE : goal.returns-then-row-lt-SIGNATURE
returns-then-row-lt-SIGNATURE c =
    let a = c.args in
    telling_short (record_of a.t.now a.s) a.row.now c.if-row-lt-SIGNATURE.true

pub returns : goal.returns
returns c =
    let a = c.args in
    telling_done (record_of a.t.now a.s) a.row.now (omega (arith, c.if-row-lt-SIGNATURE.false))
    (readings_length_of a.t.now a.s) _ _ _
    c.kind_of.ensures c.signature_of.ensures c.put_readings.ensures
