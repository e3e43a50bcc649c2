pub mod Rep
pub mod Pool
