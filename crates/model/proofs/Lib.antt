pub mod Cases
pub mod Basic
pub mod Totals
pub mod Begin
pub mod Batch
pub mod Figure
pub mod Digits
