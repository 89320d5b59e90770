pub mod Again
pub mod AllBytes
mod Answering
mod Apart
mod Bits
pub mod Canonical
pub mod Complete
pub mod Demand2
pub mod Encodes
pub mod Faults
pub mod Filled
pub mod Given
pub mod Giving
mod Handed
pub mod Modes
pub mod Numbers
pub mod Only
pub mod Own
pub mod Parts
pub mod Passed
pub mod Pieces
mod Putting
pub mod ReadsBack
pub mod Reasons
mod Refused
pub mod Rewritten
pub mod Rooms
pub mod Shifted
pub mod Single
pub mod Sizes
pub mod Sound
mod Standing
pub mod Stands
mod Storing
mod Strictly
pub mod Unambiguous
pub mod Withdrawn
pub mod WriteNumbers
pub mod Written
