pub mod Asking
pub mod Walking
pub mod Outlining
pub mod Planting
