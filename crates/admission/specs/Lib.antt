-- What every call learns of a table before anything else, and how the code comes to it.
pub mod Admission
pub mod Key
pub mod Verdict
pub mod Query
