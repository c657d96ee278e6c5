mod Lamps
mod Cameras
mod AngleLemmas
mod Sizes
mod Kept
