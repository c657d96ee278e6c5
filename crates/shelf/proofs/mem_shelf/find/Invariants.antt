-- No file so far has the name.
use Rattle.std.proofs.Common.{◌≡◌, ◌≢◌, ◌<◌, ℕ, Some, slice_get}
use Rattle.shelf.specs.Stored.{Stored}
use Rattle.shelf.proofs.mem_shelf.find.Given as goal

abbrev pub invariant-loop-place : goal.invariant-loop-place
invariant-loop-place l = (k : ℕ) (f : Stored) → k < l.place → slice_get l.files k ≡ Some f → f.name ≢ l.name
