pub mod InDemands
pub mod Within
