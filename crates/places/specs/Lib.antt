-- What is said of the first n places of a row, and of tests. Where to find what:
-- Cases      case splits: one of two facts, a number below another or not, two numbers equal or not
-- Choice     one of two values by a test, and what a test of two parts says of each
-- Sum        a sum over the places       Test     a test at each place: all pass, or how many do
-- Count      what a count of 0, 1 or more says of the places
-- Decides    a test that says yes exactly where a statement holds; tests joined
-- Row        the row of f 0, f 1, ..     Fill     a row that a loop fills; entries from its start; zeros
-- Image      lists and what their elements are sent to
pub mod Cases
pub mod Choice
pub mod Sum
pub mod Test
pub mod Decides
pub mod Count
pub mod Row
pub mod Fill
pub mod Image
