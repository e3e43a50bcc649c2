pub mod Part
pub mod Model
pub mod Whole
pub mod Pieces
