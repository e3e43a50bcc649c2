pub mod Rep
pub mod Ranges
