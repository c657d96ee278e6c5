pub mod OnePicture
pub mod PictureParts
pub mod Pictures
pub mod PixelRays
pub mod Ready
