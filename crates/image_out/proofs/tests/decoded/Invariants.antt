-- Each packet has a first byte.
use Rattle.std.proofs.Common.{◌≤◌, length}
use Rattle.image_out.proofs.tests.decoded.Given as goal

abbrev pub invariant-loop-rest : goal.invariant-loop-rest
invariant-loop-rest l = l.in_row ≤ 65535

abbrev pub decreases-loop-rest : goal.decreases-loop-rest
decreases-loop-rest l = length l.rest
