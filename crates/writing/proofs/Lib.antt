-- What the code writes; no second outcome.
pub mod WrittenLines
mod LineExamples
pub mod Unique
