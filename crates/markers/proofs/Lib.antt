pub mod Bare
mod Comparing
pub mod Encodes
pub mod Examples
pub mod Forms
pub mod Keyed
mod KeyFront
pub mod KeyedFaults
mod KeyReading
pub mod Single
