-- The walk of a newcomer to the record that it hangs on.
pub mod Descent
pub mod Loop
