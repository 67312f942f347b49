-- A network in its row, the text that it spells there, and what it answers.
pub mod Row
pub mod Spelling
pub mod Read
pub mod Found
pub mod Says
pub mod Exactly
pub mod steps
