-- Keys in rising order, and keys told apart. Where to find what:
-- Order      the definitions: in order, how often a key stands, rising, all different
-- InOrder    the laws of `in_order`: it rises, has each key as often, and nothing else does both
-- Among      a key put among keys in order, seen from the back, and in a row
-- Distinct   all different, said three ways, and what sorting decides of it
pub mod Order
pub mod InOrder
pub mod Among
pub mod Distinct
