-- The packets so far, and the pixels that are still open.
use Rattle.image_out.specs.Reading.{ReadsPart}
use Rattle.image_out.proofs.unpack.read_row.Given as goal

abbrev pub invariant-loop-left : goal.invariant-loop-left
invariant-loop-left l = ReadsPart l.width l.left l.bytes l.rest l.initial.out.items l.out.items

abbrev pub decreases-loop-left : goal.decreases-loop-left
decreases-loop-left l = l.left
