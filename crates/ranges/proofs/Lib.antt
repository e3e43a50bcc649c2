pub mod WordLaws
pub mod MergeLaws
pub mod Copying
pub mod Merging
