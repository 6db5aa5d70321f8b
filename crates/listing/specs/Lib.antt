-- The paper's worked examples, apart from the promises, whose edits then do not compute them. Where to find what:
-- Rows       the calls told on rows of records, so that a history can be computed
-- OnRows     that a history told so is the history
-- Edges      the listing as a history, and P1 to P13 as one table
pub mod Rows
pub mod OnRows
pub mod Edges
