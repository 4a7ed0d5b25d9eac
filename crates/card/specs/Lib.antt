pub mod Check
pub mod Block
pub mod Image
pub mod Judging
pub mod Calls
pub mod Damage
