pub mod State
pub mod Lent
