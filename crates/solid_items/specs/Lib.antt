pub mod Solids
pub mod Sheets
