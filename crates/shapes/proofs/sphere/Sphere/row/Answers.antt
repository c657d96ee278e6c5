use Rattle.std.proofs.Common.{arith, pos, w64, FitsSigned}
use Rattle.std.proofs.lemmas.Int.{to_z-of_z}
use Rattle.shapes.proofs.Aimed.{away}
use Rattle.shapes.proofs.sphere.Sphere.row.Goals as goal

pub returns-then-is_away : goal.returns-then-is_away
returns-then-is_away c = λ t.
    let f1 : FitsSigned w64 c.approach-approach.result = record { sfits = c.approach-approach.type_inv } in
    let f2 : FitsSigned w64 c.excess-excess.result = record { sfits = c.excess-excess.type_inv } in (
      λ w. absurd (omega (arith, w.low, w.high)),
      λ h. absurd (away c.args.path.now.ray c.args.self.now.centre c.args.self.now.radius c.of-x.result.value c.of-y.result.value c.of-z.result.value
          c.approach-approach.result c.excess-excess.result (pos c.args.path.now.aim.square) t c.of-x.ensures c.of-y.ensures c.of-z.ensures
          c.approach-approach.ensures.value c.excess-excess.ensures.value c.args.path.now.aimed
          (simp to_z-of_z at (c.is_away.ensures c.if-is_away.true t)) h.1),
    )
