-- What the private functions of labelling answer along the way.
pub mod Standing
pub mod Growing
pub mod Members
