pub mod Placing
pub mod ProductLaws
pub mod Products
pub mod SpotLaws
pub mod Transforms
