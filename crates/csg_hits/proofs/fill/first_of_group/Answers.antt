use Rattle.std.proofs.Common.{ap, sym, ◌∙◌, arith}
use Rattle.csg_hits.specs.Sides.{Sides}
use Rattle.csg_hits.proofs.Firsts.{same_first, same_quiet}
use Rattle.csg_hits.proofs.fill.first_of_group.Goals as goal

pub first_of_shape-requires-clause-quiet : goal.first_of_shape-requires-clause-quiet
first_of_shape-requires-clause-quiet c = λ s a b below n.
    ap (λ (v : Sides). v.strikes n) (c.fill-start.ensures.filled c.fill-start.new.rows (λ m h. h) s (omega arith) below) ∙ c.fill-start.ensures.outlook.quiet s (omega arith) b below n

pub returns-clause-found : goal.returns-clause-found
returns-clause-found c = same_first _ _ c.args.from c.args.path.now.end
    (λ s a below n. ap (λ (v : Sides). v.strikes n) (sym (c.fill-start.ensures.filled c.fill-start.new.rows (λ m h. h) s (omega arith) below))) c.first_of_shape.result c.first_of_shape.ensures.found

pub returns-clause-none : goal.returns-clause-none
returns-clause-none c = same_quiet _ _ c.args.from c.args.path.now.end
    (λ s a below n. ap (λ (v : Sides). v.strikes n) (sym (c.fill-start.ensures.filled c.fill-start.new.rows (λ m h. h) s (omega arith) below))) c.first_of_shape.result c.first_of_shape.ensures.none
