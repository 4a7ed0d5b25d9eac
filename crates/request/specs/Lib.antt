pub mod Asking
pub mod Laws
pub mod Statuses
