mod Sizes
mod Ways
mod Sound
mod Made
