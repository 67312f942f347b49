-- What selection finds in the rows, step by step.
pub mod Marking
