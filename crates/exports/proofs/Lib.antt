pub mod Lines
pub mod Unique
pub mod Zero
