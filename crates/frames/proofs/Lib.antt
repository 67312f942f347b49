-- Laws of the table; what the code reads of a line is what the line says; lines with the numbers that they are given;
-- digits and numbers, and what the puts write.
pub mod Tests
pub mod Column
pub mod Fault
mod Cases
pub mod Numbers
pub mod Walks
pub mod Bytes
pub mod Rows
pub mod Formed
pub mod FormExactly
pub mod OfLine
pub mod Misplaced
pub mod Header
pub mod Gate
pub mod End
pub mod Lines
pub mod CutOut
pub mod Unique
pub mod FanIns
pub mod Told
pub mod Made
pub mod Digits
pub mod Puts
pub mod WrittenLines
