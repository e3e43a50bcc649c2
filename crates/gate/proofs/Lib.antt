pub mod Tests
pub mod Started
