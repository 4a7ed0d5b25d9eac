pub mod Calls
pub mod Code
pub mod Faults
pub mod Theorems
