pub mod Outlines
pub mod Trees
