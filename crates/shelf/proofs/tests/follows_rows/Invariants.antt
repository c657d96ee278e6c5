-- The slot stays held.
use Rattle.std.proofs.Common.{◌≡◌, IsSome}
use Rattle.shelf.specs.Disk.{most_at}
use Rattle.shelf.proofs.tests.follows_rows.Given as goal

abbrev pub invariant-loop-step : goal.invariant-loop-step
invariant-loop-step g l = IsSome (g.S.Shelf.slots l.shelf l.slot) × (most_at (g.S.Shelf.slots l.shelf l.slot) ≡ 16)
