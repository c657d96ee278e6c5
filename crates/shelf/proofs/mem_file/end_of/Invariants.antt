-- The file doesn't end before this place.
use Rattle.std.proofs.Common.{◌*◌, ◌<◌, ℕ, slice_index}
use Rattle.shelf.specs.Picks.{EndsBy}
use Rattle.shelf.proofs.mem_file.end_of.Given as goal

abbrev pub invariant-loop-place : goal.invariant-loop-place
invariant-loop-place l = (k : ℕ) → k < l.place → ¬ EndsBy l.shortest l.synced l.now (slice_index l.picks (2 * k)) k
