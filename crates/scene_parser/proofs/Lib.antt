pub mod Each
pub mod Places
pub mod Objects
pub mod Valids
pub mod Kept
pub mod Items
