mod Checked
mod Fields
pub mod FixedFaults
mod Frames
pub mod Judging
pub mod MarkerFaults
mod Openings
pub mod SignedTests
pub mod Single
pub mod Tests
pub mod Verdicts
pub mod WorkedAttributes
pub mod WorkedMarkers
pub mod WorkedOpened
