pub mod Selection
pub mod steps
