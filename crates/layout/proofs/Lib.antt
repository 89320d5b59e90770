pub mod Flags
pub mod Moments
pub mod Putting
pub mod Single
mod Sums
pub mod Table
pub mod WorkedAttributes
pub mod WorkedFixed
pub mod WorkedMarkers
pub mod WorkedTimes
