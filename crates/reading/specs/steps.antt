-- What the private functions of the two passes over a text answer.
pub mod Passes
