pub mod Entries
pub mod Promises
pub mod Statements
pub mod Words
pub mod Worked
