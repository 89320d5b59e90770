mod Encoded
pub mod Worked
