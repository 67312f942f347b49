pub mod Units
pub mod Outcome
