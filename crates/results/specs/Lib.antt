-- The lines of a result.
pub mod Result
pub mod Line
pub mod Block
pub mod steps
