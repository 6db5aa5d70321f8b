-- Records that wait go back over given rows, one at a time by the insert rule. What the paper says of it is in Back,
-- and "oldest first" in age/Age. What may go back, and what is true once all are back, stands in Returnable, Returned
-- and Fits; Instance has two ways in which a caller comes to rows over which slots may go back. Loop serves the code's
-- loop.
pub mod Back
pub mod Returnable
pub mod Returned
pub mod Fits
pub mod Instance
pub mod Loop
