pub mod Promises
pub mod Statements
pub mod Tight
