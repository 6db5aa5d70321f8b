-- Signatures, their two distances, and the four laws that the tree is proved from. Where to find what:
-- Laws       the four laws and the fourth one's bound: all that the tree may use of a distance
-- Signature  sixteen readings, and the mask's four words in the same bytes
-- Readings   kind 1 and its laws         Mask     kind 2 and its laws, which stand without kind 1
-- Kind       the known kinds, and the distance of a kind with its laws
-- Edges      P10 and P11
pub mod Laws
pub mod Signature
pub mod Readings
pub mod Mask
pub mod Kind
pub mod Edges
