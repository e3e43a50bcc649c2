pub mod Given
pub mod Scan
