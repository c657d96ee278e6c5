use Rattle.std.proofs.Common.{FitsSigned}
use Rattle.std.proofs.lemmas.Int.{to_z-of_z}
use mir.Syntax.{w128}
use Rattle.shapes.specs.Lines.{value_at}
use Rattle.shapes.proofs.Terms.{gathered}
use Rattle.shapes.proofs.conic.BowlCurve.at.Goals as goal

pub returns-clause-value : goal.returns-clause-value
returns-clause-value c =
    let q = c.args.self.now.terms in let s = c.args.self.now.sight in let t = c.args.t in
    let f : FitsSigned w128 c.plus-3.result = record { sfits = c.plus-3.type_inv } in
    simp to_z-of_z (rw (
      c.plus-3.ensures.value,
      c.plus-2.ensures,
      c.times-7.ensures,
      c.times-8.ensures,
      c.times-9.ensures,
      c.plus-along_x.ensures.value,
      c.plus-second.ensures.value,
      c.plus-first.ensures.value,
      c.growth.ensures.value,
      c.times.ensures,
      c.times-2.ensures,
      c.times-3.ensures,
      c.plus-along_y.ensures.value,
      c.plus.ensures.value,
      c.growth-2.ensures.value,
      c.times-4.ensures,
      c.times-5.ensures,
      c.plus-along_z.ensures.value,
      c.growth-3.ensures.value,
      c.times-6.ensures,
      c.coordinate_at-x.ensures,
      c.coordinate_at-y.ensures,
      c.coordinate_at-z.ensures,
    )
    (gathered q.xx.value q.yy.value q.zz.value q.xy.value q.xz.value q.yz.value q.x.value q.y.value q.z.value q.one.value (value_at s.x t) (value_at s.y t) (value_at s.z t)))
