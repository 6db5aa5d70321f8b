-- The bench program's commands.
pub mod Command
pub mod Operation
