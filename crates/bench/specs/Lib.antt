-- What the bench program says, and when; and why its lines fit.
pub mod Program
pub mod Laws
