use Rattle.std.proofs.Common.{ℕ, ◌≤◌, ◌<◌, ◌≡◌, ◌-◌, false}
use Rattle.csg_hits.specs.Rows.{shape_in}
use Rattle.csg_hits.proofs.search.first_of_shape.Given as goal

abbrev pub invariant-loop-t : goal.invariant-loop-t
invariant-loop-t l = record { low : l.from ≤ l.t; passed : (s : ℕ) → l.from ≤ s → s < l.t → s < l.end → (n : ℕ) → (shape_in l.rows l.shape s).strikes n ≡ false }

abbrev pub decreases-loop-t : goal.decreases-loop-t
decreases-loop-t l = l.end - l.t
