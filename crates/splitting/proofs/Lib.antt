pub mod PoolLaws
pub mod RequeueLaws
pub mod SplitLaws
