pub mod First
pub mod One
pub mod Room
