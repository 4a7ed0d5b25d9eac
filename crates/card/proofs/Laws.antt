pub mod Sums
pub mod Rows
pub mod Refusals
pub mod Tests
pub mod Blocks
pub mod Judging
pub mod Images
pub mod Damage
