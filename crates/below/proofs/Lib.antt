-- What the proofs of gathering share.
mod Gathering
