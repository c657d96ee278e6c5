pub mod Noted
pub mod Blank
