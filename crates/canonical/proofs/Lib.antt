pub mod CanonicalBytes
pub mod Single
mod SizeSteps
mod Strict
mod StrictSteps
