pub mod Lengths
pub mod ResultLines
pub mod LineAt
pub mod Roomy
pub mod Answered
pub mod Fitting
pub mod Blocks
pub mod Unique
