pub mod Keyed
pub mod Worked
