use Rattle.std.proofs.Common.{length, refl, arith}
use Rattle.std.proofs.lemmas.Option.{slice_get_read}
use Rattle.state_file.proofs.Given.{marks_more, marks_all}
use Rattle.state_file.proofs.write.mark_all.Goals as goal

pub loop-block-preserved : goal.loop-block-preserved
loop-block-preserved c =
    let at = slice_get_read c.args.blocks.now (length c.args.blocks.now) c.loop-block.block-index c.block-item.result refl
    c.loop-block-test.true c.block-item.is in
    marks_more c.args.mark c.args.blocks.now c.loop-block.block-index c.block-item.result c.args.marks.now c.loop-block.marks _
    at refl (omega (arith, c.requires c.loop-block.block-index c.block-item.result at, c.loop-block.auto.marks)) c.loop-block.invariant

pub returns : goal.returns
returns c = record { marks = marks_all c.args.mark c.args.blocks.now c.loop-block.block-index c.args.marks.now c.loop-block.marks c.loop-block-test.false c.loop-block.invariant }
