pub mod Table
pub mod Batch
pub mod Format
pub mod Fixed
pub mod Time
pub mod Promises
pub mod Statements
pub mod Worked
