-- Frames and refusals, for a whole text.
pub mod Reading
pub mod Says
pub mod Exactly
pub mod Spelling
