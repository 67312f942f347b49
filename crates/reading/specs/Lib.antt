pub mod ReadInto
pub mod steps
