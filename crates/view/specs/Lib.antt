-- What joins a table's records to the tree's theorems.
pub mod View
pub mod Children
pub mod Shaped
pub mod Survey
pub mod Formed
pub mod Freed
pub mod Readable
pub mod Sound
