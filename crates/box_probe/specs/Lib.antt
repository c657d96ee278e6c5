pub mod Boxes
pub mod Probes
