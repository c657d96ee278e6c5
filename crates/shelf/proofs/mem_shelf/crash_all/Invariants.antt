-- What comes of the files that are left comes of all of them.
use Rattle.std.proofs.Common.{◌≡◌, List, ◌++◌, length, take, drop}
use Rattle.shelf.specs.Picks.{ArePicked}
use Rattle.shelf.specs.Stored.{Stored}
use Rattle.shelf.proofs.mem_shelf.crash_all.Given as goal

abbrev pub invariant-loop-place : goal.invariant-loop-place
invariant-loop-place l = record {
  long : length l.files.items ≡ length l.initial.files.items;
  ahead : drop l.place l.files.items ≡ drop l.place l.initial.files.items;
  picked : (tail : List Stored) → ArePicked (drop l.place l.initial.files.items) l.rest tail → ArePicked l.initial.files.items l.picks (take l.place l.files.items ++ tail);
}
