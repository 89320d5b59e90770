pub mod Crc
pub mod Examples
pub mod Table
pub mod Folding
pub mod Promises
pub mod Statements
