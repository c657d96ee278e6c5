-- The number so far is that of the digits so far, up to the cap.
use Rattle.std.proofs.Common.{◌≡◌, min, take}
use Rattle.options.specs.Values.{whole_of}
use Rattle.options.proofs.values.capped_whole.Given as goal

abbrev pub invariant-loop-digit : goal.invariant-loop-digit
invariant-loop-digit l = l.number ≡ min (whole_of (take l.digit-index l.digits)) 1000000
