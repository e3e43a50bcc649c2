pub mod Has
pub mod InGroup
