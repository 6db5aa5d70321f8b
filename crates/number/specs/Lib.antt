-- Numbers in lent bytes, low byte first. Where to find what:
-- Number     what the number in n bytes is, and bytes with a number written, at any width
-- Frame      what a write changes and what it leaves: a number is read back, and another is as it was
pub mod Number
pub mod Frame
