-- Spelling and reading undo each other; what an accepted text is; what the table says of a text; texts with their answers.
pub mod Lines
pub mod Frames
pub mod Faultless
pub mod Accepted
pub mod AcceptedNetwork
pub mod Heavy
pub mod Exactly
pub mod Table
pub mod GateLines
pub mod Cases
