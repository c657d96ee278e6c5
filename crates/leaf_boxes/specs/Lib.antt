pub mod Holding
pub mod Boxes
pub mod Groups
pub mod BoxLaws
