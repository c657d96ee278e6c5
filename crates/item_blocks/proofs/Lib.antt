mod MovedAll
mod Moves
mod Blocks
mod Colours
