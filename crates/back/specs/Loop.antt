-- What the loop that puts back needs, and nothing else: the rule on rows in which those that wait still have their
-- bytes (Puts), a turn on rows (Turn), and a turn on lent bytes (Pending).
pub mod Puts
pub mod Turn
pub mod Pending
