-- `command::run` meets its contract: a whole record is operated, any other refused. Assumes nothing.
use Rattle.std.proofs.Common.{sym, ◌∙◌}
use Rattle.command.specs.Command.{command_whole, command_length_lem}
use Rattle.command.proofs.run.Goals as goal

pub returns-then-command-ne-COMMAND : goal.returns-then-command-ne-COMMAND
returns-then-command-ne-COMMAND c =
    let a = c.args in
    sym (command_length_lem a.command.now a.table.now a.list.now c.if-command-ne-COMMAND.true)

pub returns : goal.returns
returns c =
    let a = c.args in
    c.operate.ensures
    ∙ sym (command_whole a.command.now a.table.now a.list.now c.if-command-ne-COMMAND.false)
