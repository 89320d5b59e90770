pub mod Answers
pub mod Promises
pub mod Statements
pub mod Walk
