pub mod ExactLemmas
pub mod FileLemmas
pub mod PacketLemmas
pub mod PixelLemmas
pub mod ReadLemmas
pub mod UnpackLemmas
