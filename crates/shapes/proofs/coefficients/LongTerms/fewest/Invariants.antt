use Rattle.std.proofs.Common.{◌-◌, ◌≡◌, ℕ, ◌<◌, ◌≤◌, false}
use Rattle.shapes.specs.Quadrics.{are_terms_small}
use Rattle.shapes.proofs.coefficients.LongTerms.fewest.Given as goal

abbrev pub invariant-loop-lost : goal.invariant-loop-lost
invariant-loop-lost l = record {
  most : l.lost ≤ 100;
  first : (j : ℕ) → j < l.lost → are_terms_small l.self j ≡ false;
}

abbrev pub decreases-loop-lost : goal.decreases-loop-lost
decreases-loop-lost l = 100 - l.lost
