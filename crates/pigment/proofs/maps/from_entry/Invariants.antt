-- What shows from the entry on is what shows from the first one on.
use Rattle.std.proofs.Common.{◌≡◌, ◌≤ℤ◌, drop}
use Rattle.scene_model.specs.Amounts.{IsRgbft}
use Rattle.pigment.specs.Maps.{from_entry}
use Rattle.pigment.proofs.maps.from_entry.Given as goal

abbrev pub invariant-loop-next : goal.invariant-loop-next
invariant-loop-next l = record {
  same : from_entry l.entry (drop l.next-index l.rest) l.at ≡ from_entry l.first l.rest l.at;
  valid : IsRgbft l.entry.colour;
  reached : l.entry.at ≤ℤ l.at;
}
