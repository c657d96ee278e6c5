use Rattle.std.proofs.Common.{arith}
use Rattle.state_file.specs.Frames.{layout}
use Rattle.state_file.proofs.Taken.{taken_more}
use Rattle.state_file.proofs.load.take_blocks.Goals as goal

pub loop-index-preserved : goal.loop-index-preserved
loop-index-preserved c = taken_more (layout c.args.frame.now) c.args.image.now c.loop-index.index c.loop-index.marks c.take_block.new.marks
    c.loop-index.picture c.take_block.new.picture
    (omega (arith, c.requires.marked, c.loop-index.auto.marks, c.loop-index-test.true, c.count-index-end.ensures))
    (omega (arith, c.loop-index-test.true, c.count-index-end.ensures))
    c.take_block.ensures.closed_marks c.take_block.ensures.closed_picture c.take_block.ensures.marks c.take_block.ensures.here c.take_block.ensures.others
    c.loop-index.invariant
