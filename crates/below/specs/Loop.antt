-- What the code's loops need, and nothing else: the keys of what leaves, as they are gathered, and the largest
-- timestamp of what stays, by marks.
pub mod Gather
pub mod Clock
