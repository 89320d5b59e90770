pub mod Answers
pub mod Asked
pub mod RowFaults
pub mod Promises
pub mod Statements
pub mod Worked
