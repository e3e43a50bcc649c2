pub mod Tables
pub mod Taken
