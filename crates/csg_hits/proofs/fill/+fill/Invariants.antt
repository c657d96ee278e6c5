use Rattle.std.proofs.Common.{ℕ, ◌≡◌, length}
use Rattle.csg_hits.specs.Outlooks.{IsOutlook}
use Rattle.csg_hits.specs.Ready.{leaves_of}
use Rattle.csg_hits.specs.Rows.{IsRight}
use Rattle.csg_hits.specs.Surfaces.{leaf_on}
use Rattle.csg_hits.proofs.Groups.{first_parts}
use Rattle.csg_hits.proofs.Right.{AreFilled}
use Rattle.csg_hits.proofs.fill.+fill.Given as goal

abbrev pub invariant-loop-index : goal.invariant-loop-index
invariant-loop-index l = record {
  kept : (n : ℕ) → IsRight (leaves_of l.leaves) l.path.ray l.path.end l.initial.rows n → IsRight (leaves_of l.leaves) l.path.ray l.path.end l.rows n;
  filled : AreFilled (leaves_of l.leaves) l.path.ray l.t l.path.end l.rows l.part-items l.index;
  outlook : IsOutlook (first_parts (leaf_on (leaves_of l.leaves) l.path.ray) l.op l.part-items l.index) l.t l.path.end l.all;
  len : length l.rows ≡ length l.leaves;
}
