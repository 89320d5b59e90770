pub mod Decimals
mod Digits
mod Entries
mod Lengths
mod Lines
pub mod Listed
mod Signed
pub mod Single
pub mod Turns
pub mod WorkedLines
pub mod WorkedLongest
