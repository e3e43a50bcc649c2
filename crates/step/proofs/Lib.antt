pub mod Leaves
pub mod Totals
pub mod Said
