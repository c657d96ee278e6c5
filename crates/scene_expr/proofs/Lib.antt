mod Directly
mod Levels
mod Needs
