pub mod Markers
pub mod Forms
pub mod Promises
pub mod Statements
