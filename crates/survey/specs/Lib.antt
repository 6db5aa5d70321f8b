-- The small questions that the calls ask of a table: the answers, and what they say of the records.
pub mod Survey
pub mod First
pub mod Laws
pub mod Answers
