-- So many zeros stand there.
use Rattle.std.proofs.Common.{◌≡◌, ◌++◌, replicate}
use Rattle.options.proofs.frames.append_padded.Given as goal

abbrev pub invariant-loop : goal.invariant-loop
invariant-loop l = l.out.items ≡ l.initial.out.items ++ replicate l.counter 48
