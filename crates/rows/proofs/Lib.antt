-- A network in its row and the text that it spells; how the code reads, stores and checks it; what a row answers, and by
-- which numbers it can be refused; the round trips; a row lent to a text; no second outcome.
pub mod Blocks
pub mod Access
pub mod Faults
pub mod Spelled
pub mod Holds
pub mod RowCheck
pub mod RowNumbers
pub mod Checked
pub mod Found
mod CheckedExamples
pub mod RoundTrip
pub mod Room
mod Cases
pub mod Unique
