-- What the descent's loops need besides its definition.
pub mod Nearest
pub mod DescentTurn
