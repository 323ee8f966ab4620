-- Lemmas that the proofs of this crate share.
pub mod Listed
pub mod Signs
pub mod Places
pub mod Turns
pub mod Parsed
pub mod Faults
pub mod Progress
pub mod Puts
pub mod Lined
pub mod Sectioned
pub mod Netted
pub mod Printed
pub mod Putting
