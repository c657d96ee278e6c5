mod InverseLemmas
mod ComposeLemmas
mod DigitLemmas
mod SpotLemmas
mod Examples
