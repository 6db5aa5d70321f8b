-- The tree over an abstract table, proved once over any distance with the four laws. The theorems of a search, of the
-- nearest few, of an insertion and of a removal are in proofs/, under the same names. Where to find what:
-- Slots      lists of slots: membership, no slot twice, kept or dropped
-- Sorted     lists put in order by a comparison
-- View       a table as the tree sees it: well formed, sound, the distance count; View/ its theorems
-- Search     range search in the paper's three steps; Search/Turn the children's turn as a loop takes it
-- Nearest    the nearest few cards: lower bounds, those that wait, those taken; Nearest/Lean as the code keeps them
-- Insert     the walk of an insertion and what it leaves
-- Remove     what a removal leaves
-- Example    the definitions at work on the paper's listing
pub mod Slots
pub mod Sorted
pub mod View
pub mod Search
pub mod Nearest
pub mod Insert
pub mod Remove
pub mod Example
