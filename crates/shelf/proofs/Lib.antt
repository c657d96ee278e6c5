pub mod FileLemmas
pub mod HavePicks
pub mod ImageLemmas
pub mod PastLemmas
pub mod PickLemmas
pub mod ShelfLemmas
pub mod Steps
