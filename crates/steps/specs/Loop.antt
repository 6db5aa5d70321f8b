-- Loop: the children of one record in the order in which the code meets them. The paper's own words are tree/Search,
-- and `visit_from_farthest` (tree/Search/Turn) shows that both enter the same slots.
pub mod Children
pub mod Laws
