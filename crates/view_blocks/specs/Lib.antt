pub mod Lamps
pub mod Cameras
pub mod Reach
pub mod Lights
pub mod Views
pub mod OneItem
