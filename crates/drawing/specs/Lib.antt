-- Whole texts: what each answers, line by line, the worked rows, the three demands, and what falls short of them.
pub mod Answer
pub mod Examples
pub mod Demands
pub mod Prepared
pub mod Headline
pub mod Rooms
pub mod Worthless
pub mod steps
