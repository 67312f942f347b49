-- Frames and refusals, as far as the rules speak of one line; `steps` is for the code alone.
pub mod Refusal
pub mod Text
pub mod Table
pub mod Fault
pub mod Frames
pub mod Digits
pub mod Typed
pub mod Put
pub mod steps
