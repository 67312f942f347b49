-- What the functions of this crate, and of those above it, answer along the way.
pub mod RowCheck
pub mod Holds
