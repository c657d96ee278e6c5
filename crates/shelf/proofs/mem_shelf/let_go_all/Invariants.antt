-- The files so far are given up, and the others are as they were.
use Rattle.std.proofs.Common.{◌≡◌, ◌++◌, map, take, drop}
use Rattle.shelf.proofs.ShelfLemmas.{let_go}
use Rattle.shelf.proofs.mem_shelf.let_go_all.Given as goal

abbrev pub invariant-loop-file : goal.invariant-loop-file
invariant-loop-file l = l.files ≡ map let_go (take l.file-index l.initial.files) ++ drop l.file-index l.initial.files
