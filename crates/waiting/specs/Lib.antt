-- Records that wait and cards that are held, as rows of keys. Where to find what:
-- Key      one number for what waits and for what is held
-- Front    the work as the code does it, over lists of keys
-- Rows     the rows that the code keeps, and what of them stands; Rising: that one is in order
-- Laws     keys put in their places
-- Going    the work turn by turn; Known: each key that waits tells a slot of the table
-- Same     these rows are the images of the tree's lean work
pub mod Key
pub mod Front
pub mod Rising
pub mod Rows
pub mod Laws
pub mod Going
pub mod Known
pub mod Same
