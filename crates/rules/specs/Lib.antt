pub mod Rules
pub mod Searched
pub mod Places
