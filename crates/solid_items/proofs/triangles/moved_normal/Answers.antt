use Rattle.std.proofs.Common.{refl}
use Rattle.solid_items.proofs.triangles.moved_normal.Goals as goal

pub returns-clause-value : goal.returns-clause-value
returns-clause-value c = rw (c.row_dots.ensures.value, c.raws.ensures.value, c.flipped.ensures) refl
