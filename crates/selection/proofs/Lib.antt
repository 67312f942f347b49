-- Marks and roots, what selecting answers, and that no second outcome meets a contract.
pub mod Marks
pub mod Roots
pub mod Unread
pub mod Selected
pub mod Answered
pub mod Unique
