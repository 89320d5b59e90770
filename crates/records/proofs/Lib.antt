pub mod AllBytes
pub mod Complete
pub mod Encodes
pub mod Ends
pub mod FaultNumbers
mod FieldSteps
mod Found
pub mod HeaderFaults
pub mod Held
pub mod Inside
mod Judges
pub mod KeyFaults
pub mod Keys
pub mod Nth
pub mod Parts
pub mod Places
mod Presence
pub mod RecordFaults
pub mod RecordMoves
pub mod Refusals
pub mod RunOn
pub mod Shifted
pub mod Shortest
pub mod Shows
pub mod Single
pub mod Sizes
pub mod Sound
pub mod Starred
pub mod Unambiguous
pub mod Wide
pub mod Writable
pub mod Written
pub mod WorkedNumbers
pub mod WorkedRows
