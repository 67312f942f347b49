-- The rules that need no text and no code: words, legal clusterings, labelling, selection and wiring, and what is proved of them.
pub mod Basics
pub mod Ceilings
pub mod Network
pub mod Onward
pub mod Clustering
pub mod Label
pub mod Growth
pub mod Drawing
pub mod Best
