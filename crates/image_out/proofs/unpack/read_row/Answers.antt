-- One packet more, or the fault behind those that were read.
use Rattle.image_out.proofs.ReadLemmas.{part_more, part_none}
use Rattle.image_out.proofs.unpack.read_row.Goals as goal

pub loop-left-init : goal.loop-left-init
loop-left-init c = part_none c.args.width c.args.bytes.now c.args.out.now.items

pub loop-left-preserved : goal.loop-left-preserved
loop-left-preserved c = part_more c.args.width c.loop-left.left c.in-Ok.count _ _ _ _ _ _ c.loop-left.invariant c.in-Ok.ensures.read

pub returns-in-Err-clause-fault : goal.returns-in-Err-clause-fault
returns-in-Err-clause-fault c =
    let part = c.loop-left.invariant in
    (part.0, c.loop-left.left, c.loop-left.rest.now, part.1, c.loop-left-test.true, c.in-Err.ensures.fault)
