pub mod Cutting
pub mod Tested
pub mod Moving
pub mod Acts
pub mod Loop
pub mod Stretches
