pub mod Bounds
pub mod Ways
pub mod Entries
