pub mod TimeLaws
pub mod Inserting
pub mod Sorting
pub mod FingerLaws
