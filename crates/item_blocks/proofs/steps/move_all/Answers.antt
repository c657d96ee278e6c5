use Rattle.std.proofs.Common.{◌∙◌, arith}
use Rattle.std.proofs.Math.ListN.{length-set}
use Rattle.item_blocks.proofs.MovedAll.{moved_further}
use Rattle.item_blocks.proofs.steps.move_all.Goals as goal

pub things-preserved : goal.things-preserved
things-preserved c = record {
  same = c.things.invariant.same ∙ moved_further c.args.step.now c.things.xforms c.things.i c.index-xforms-i.result c.in_ok-xforms.field-0 (omega (arith, c.things-test.true, c.things.invariant.many)) c.in_ok-xforms.ensures.value;
  many = length-set c.things.xforms c.things.i c.in_ok-xforms.field-0 ∙ c.things.invariant.many;
}
