-- What only the contracts of private functions cite.
pub mod Line
pub mod Block
pub mod Marked
