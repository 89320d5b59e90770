pub mod Accepted
pub mod Asks
pub mod Exits
mod HeaderRows
pub mod Own
mod Places
mod RecordRows
pub mod Refusals
pub mod RowFaults
pub mod Single
pub mod There
pub mod Writable
pub mod WorkedNumbers
pub mod WorkedRows
