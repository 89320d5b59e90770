pub mod Inside
pub mod Promises
pub mod Sizes
pub mod Statements
