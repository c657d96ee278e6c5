use Rattle.std.proofs.Common.{◌-◌, sym, ◌∙◌, arith}
use Rattle.csg_hits.proofs.Alone.{quiet_on, quiet_row, none_here}
use Rattle.csg_hits.specs.Rows.{row_crossing}
use Rattle.csg_hits.specs.Sides.{leaf_sides}
use Rattle.csg_hits.proofs.search.first_of_leaf.Goals as goal

pub loop-t-init : goal.loop-t-init
loop-t-init c = record {
  low = (let k = c.next-t.ensures.above (omega arith) in omega arith);
  passed = λ s a b. quiet_row c.args.row.now c.args.leaf s (c.next-t.ensures.same (s - 1) (omega arith) (omega arith) ∙ sym (c.next-t.ensures.same s (omega arith) b));
}

pub loop-t-preserved : goal.loop-t-preserved
loop-t-preserved c =
    let k = quiet_on (λ t. (leaf_sides c.args.leaf (row_crossing c.args.row.now t)).strikes) c.args.from c.loop-t.t c.next-t-in-loop-t.result c.loop-t.invariant.low (c.next-t-in-loop-t.ensures.above (omega arith)) c.loop-t.invariant.passed
    (none_here c.args.row.now c.args.leaf c.loop-t.t (sym c.is_struck.ensures ∙ c.if-is_struck.false))
    (λ s a b. quiet_row c.args.row.now c.args.leaf s (c.next-t-in-loop-t.ensures.same (s - 1) (omega arith) (omega arith) ∙ sym (c.next-t-in-loop-t.ensures.same s (omega arith) b))) in
    record { low = k.0; passed = k.1 }
