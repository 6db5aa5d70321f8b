-- What these loops do is said in the specs of `waiting`: Front, Rows, Going and Known. Next: one record is taken.
pub mod Next
