use Rattle.std.proofs.Common.{ℕ}
use Rattle.csg_hits.specs.Outlooks.{IsOutcome}
use Rattle.csg_hits.specs.Rows.{leaf_in}
use Rattle.csg_hits.proofs.Groups.{first_parts}
use Rattle.csg_hits.proofs.outlook.+evaluate.Given as goal

abbrev pub invariant-loop-index : goal.invariant-loop-index
invariant-loop-index l = (end : ℕ) → IsOutcome (first_parts (leaf_in l.rows) l.op l.part-items l.index) l.t end l.all
