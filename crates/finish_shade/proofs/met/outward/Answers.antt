use Rattle.std.proofs.Common.{sym, ap, subst, ◌∙◌}
use Rattle.fix_math.specs.Matrices.{IsVectorWithin}
use Rattle.shapes.specs.Faces.{all_hold}
use Rattle.shapes.specs.Growths.{solid_outward}
use Rattle.shapes.specs.Rays.{position_of}
use Rattle.finish_shade.proofs.Crossed.{wide_within}
use Rattle.finish_shade.proofs.met.outward.Goals as goal

pub normal-requires-clause-inside : goal.normal-requires-clause-inside
normal-requires-clause-inside c = ap all_hold (c.solid.ensures.faces (position_of c.inner.result)) ∙ c.inner.ensures.inside

pub returns-clause-small : goal.returns-clause-small
returns-clause-small c = subst (IsVectorWithin 65536) (sym c.normal.ensures) (wide_within (solid_outward c.solid.result (position_of c.inner.result) c.args.hit.now.face))
