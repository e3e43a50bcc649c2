pub mod Fingers
pub mod SplitLaws
pub mod Splitting
pub mod Reversing
