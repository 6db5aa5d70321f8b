-- Same, the theorem that the rows of keys are images of the lean work.
pub mod Same
