pub mod Text
pub mod Listing
pub mod Answers
pub mod Promises
pub mod Writing
pub mod Statements
pub mod Worked
