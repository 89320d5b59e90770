pub mod Caps
pub mod Lengths
pub mod Placed
pub mod Single
pub mod Steps
