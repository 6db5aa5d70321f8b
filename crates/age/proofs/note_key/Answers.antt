-- `age::age::note_key` meets its contract: one write. Assumes nothing.
use Rattle.std.specs.Prelude.{◌<◌}
use Rattle.std.proofs.Common.{rules}
use Rattle.table.specs.Table.{records_in}
use Rattle.table.specs.Stands.{in_stands}
use Rattle.age.proofs.note_key.Goals as goal

pub overflow_add-keys : goal.overflow_add-keys
overflow_add-keys c =
    let h : c.args.s < records_in c.args.t.now = in_stands c.args.t.now c.args.s c.requires.0 in
    search rules
