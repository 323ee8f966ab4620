-- What the contracts of this crate cite.
pub mod Net
pub mod Refusals
pub mod Tables
pub mod Grids
pub mod Changes
pub mod Layers
