-- What stands at or below a record, as the code gathers it.
pub mod Loop
