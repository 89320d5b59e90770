pub mod Examples
pub mod Statements
