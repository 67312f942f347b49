pub mod Promises
pub mod WithLabels
pub mod steps
