pub mod Alike
mod Asking
pub mod Back
pub mod Counts
mod Fitting
mod Listed
mod Saying
pub mod Single
mod Taken
mod Telling
mod Tests
pub mod WorkedEntries
pub mod WorkedKinds
pub mod WorkedTimes
