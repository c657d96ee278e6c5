-- The texts before this one stand there.
use Rattle.std.proofs.Common.{◌≡◌, ◌++◌, take}
use Rattle.std.specs.List.{flat_map}
use Rattle.options.specs.Keys.{source_bytes}
use Rattle.options.proofs.keys.append_sources.Given as goal

abbrev pub invariant-loop-source : goal.invariant-loop-source
invariant-loop-source l = l.out.items ≡ l.initial.out.items ++ flat_map source_bytes (take l.source-index l.files)
