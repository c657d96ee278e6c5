pub mod Words
pub mod Turns
pub mod Ends
pub mod Tables
pub mod Levels
pub mod Marks
pub mod Texts
