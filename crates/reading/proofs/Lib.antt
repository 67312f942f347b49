-- What the two passes over a text come to; no second outcome.
pub mod LinesRead
pub mod Looking
pub mod Filling
pub mod ReadInto
pub mod Unique
