pub mod MemoryLaws
pub mod StateLaws
pub mod Rep
