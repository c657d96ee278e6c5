mod LengthLemmas
mod NearRootLemmas
mod ShiftLemmas
mod ExcessLemmas
mod SeriesLemmas
mod PowerLemmas
