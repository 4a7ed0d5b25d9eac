pub mod Blocks
pub mod Laws
pub mod Refusals
