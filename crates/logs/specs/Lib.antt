pub mod Part
pub mod OnePart
pub mod File
