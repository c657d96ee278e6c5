pub mod Groups
pub mod Looking
pub mod Alone
pub mod Right
pub mod Firsts
pub mod Unions
pub mod Copies
pub mod Facing
pub mod Numbered
pub mod Further
pub mod Nearest
mod Bounded
mod Extents
mod Rowed
