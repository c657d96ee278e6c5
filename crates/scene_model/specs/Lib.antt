pub mod Amounts
pub mod Solids
pub mod Looks
pub mod Places
pub mod Valid
