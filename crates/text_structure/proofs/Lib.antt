mod Entries
mod Vocabularies
mod Nests
pub mod OneEnd
mod Rows
