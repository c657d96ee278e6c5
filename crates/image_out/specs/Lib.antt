pub mod Files
pub mod Packets
pub mod Pixels
pub mod Reading
pub mod Sizes
pub mod Unpacking
