pub mod Grammar
pub mod Scalars
pub mod Judgement
pub mod Promises
pub mod Statements
pub mod Steps
