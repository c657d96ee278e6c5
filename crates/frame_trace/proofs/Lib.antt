pub mod Drawn
pub mod Kept
pub mod Neighbours
pub mod Shares
pub mod Sums
