pub mod State
pub mod Rep
