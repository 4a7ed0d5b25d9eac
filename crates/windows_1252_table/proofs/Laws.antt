pub mod Table
pub mod Utf16
