pub mod Conversion
pub mod Answers
pub mod Promises
pub mod Giving
pub mod Statements
