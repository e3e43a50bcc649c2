pub mod Follow
pub mod Listed
