-- What the probe functions answer: parts of the library, opened for the comparison with the independent model.
pub mod Probe
pub mod Tells
