pub mod Globals
pub mod Defaults
pub mod Seen
pub mod Placed
pub mod Scenes
pub mod Sound
pub mod OneScene
