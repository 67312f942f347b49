pub mod Makers
pub mod Unique
