pub mod Spaces
pub mod Cells
pub mod Maps
pub mod Pigments
