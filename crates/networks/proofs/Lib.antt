-- Lemmas that the proofs of this crate share.
pub mod Looked
pub mod Layered
pub mod Gridded
