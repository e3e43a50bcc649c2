pub mod Stretch
pub mod Sized
