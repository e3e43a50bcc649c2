pub mod Needs
pub mod Places
