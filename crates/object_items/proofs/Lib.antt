mod Skips
mod Moves
mod Modifies
mod Shapes
mod Wholes
