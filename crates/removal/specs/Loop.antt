-- What the loop that closes up the child slots needs, and nothing else: on a list of slots (Closing), and in lent bytes
-- (Closed).
pub mod Closing
pub mod Closed
