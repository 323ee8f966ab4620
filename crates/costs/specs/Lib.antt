-- What the contracts of this crate cite.
pub mod Group
pub mod Kind
pub mod Whole
pub mod WholeLaws
pub mod Pair
pub mod PairLaws
