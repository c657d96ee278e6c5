pub mod Lists
pub mod Pieces
pub mod WordLemmas
pub mod Steps
mod Clocks
mod Different
mod KeyLemmas
mod NumberRange
mod Ranges
mod Glue
