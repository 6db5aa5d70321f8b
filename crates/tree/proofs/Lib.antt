-- The tree's theorems, for each file of definitions in specs/ one of the same name here:
-- Search     what range search finds, once, more at a wider radius, and its text without fuel
-- Nearest    what the nearest few cards are, those that wait and those taken
-- Insert     what an insertion leaves: well formed, sound
-- Remove     what a removal leaves: well formed, sound, one card fewer
pub mod Search
pub mod Nearest
pub mod Insert
pub mod Remove
