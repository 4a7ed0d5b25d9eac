pub mod Ahead
pub mod Calls
pub mod Model
pub mod Operations
pub mod Series
pub mod WithoutSets
