pub mod Demands
pub mod Examples
pub mod SameLabels
pub mod Preparing
pub mod Headline
pub mod Unique
pub mod Worthless
pub mod Rooms
