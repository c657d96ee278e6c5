mod Commas
mod Evaluates
mod Exit
mod Stacks
mod Beginning
mod Causes
mod Including
pub mod Laws
pub mod MeaningLaws
mod NameLaws
pub mod SwitchLaws
mod TakenIn
mod OneText
mod One
mod OneScene
mod Settled
mod Fronts
mod Heads
mod Tails
mod SaidFirst
mod Onward
mod Starts
mod Passages
mod Tables
mod PlainTexts
