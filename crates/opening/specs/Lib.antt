pub mod Judgement
pub mod Faults
pub mod Opened
pub mod Answers
pub mod Promises
pub mod Statements
pub mod Opening
pub mod Worked
