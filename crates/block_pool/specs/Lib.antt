pub mod Counting
pub mod Views
pub mod Rule
pub mod Steps
pub mod Pools
pub mod Starts
