-- A record leaves with all below it. What the paper says is in Removal; which slots leave, and what the others keep, in
-- Leaving; that it is the tree's removal, so what stays is well formed, and sound if it was, in Removed; the same in
-- lent bytes in Lent. Loop serves the code's loop that closes up the child slots.
pub mod Removal
pub mod Leaving
pub mod Removed
pub mod Loop
pub mod Lent
