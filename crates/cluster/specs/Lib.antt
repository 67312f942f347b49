-- What the program prints, and where.
pub mod Printing
