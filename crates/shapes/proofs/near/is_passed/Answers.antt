use Rattle.std.proofs.Common.{arith, ◌≤ℤ◌, ◌<ℤ◌, FitsSigned, ⊎_elim}
use Rattle.std.proofs.lemmas.Int.{to_z-of_z}
use Rattle.std.proofs.lemmas.Bool.{cases_lt}
use mir.Syntax.{w128}
use Rattle.shapes.proofs.Bent.{above_from, above_to, true_le, true_lt}
use Rattle.shapes.proofs.near.is_passed.Goals as goal

pub at-requires : goal.at-requires
at-requires g c = c.requires.near c.args.at (record { low = c.requires.low; high = c.requires.high })

pub at-requires-else-at-span-2 : goal.at-requires-else-at-span-2
at-requires-else-at-span-2 g c = c.requires.near _ (record { low = omega (arith, c.requires.low); high = omega (arith, c.requires.high) })

pub at-requires-then-at-span-3 : goal.at-requires-then-at-span-3
at-requires-then-at-span-3 g c = c.requires.near _ (record { low = omega (arith, c.requires.low); high = omega (arith, c.requires.high) })

pub at-requires-then-at-span-3-2 : goal.at-requires-then-at-span-3-2
at-requires-then-at-span-3-2 g c = c.requires.near _ (record { low = omega (arith, c.requires.low); high = omega (arith, c.requires.high) })

pub returns-else-at-span-2 : goal.returns-else-at-span-2
returns-else-at-span-2 g c = λ h t w.
    let v = g.C.Curve.value c.args.curve.now in
    let f1 : FitsSigned w128 c.at.result = record { sfits = c.at.type_inv } in
    let f2 : FitsSigned w128 c.at-else-at-span-2.result = record { sfits = c.at-else-at-span-2.type_inv } in
    let k : c.at.result ≤ℤ c.at-else-at-span-2.result = true_le _ _ (simp to_z-of_z at h) in
    above_from v c.requires.opens c.args.limit c.args.at t (omega (arith, w.low)) c.requires.above (rw (← c.at.ensures.value, ← c.at-else-at-span-2.ensures.value) k)

pub returns-then-at-span-3 : goal.returns-then-at-span-3
returns-then-at-span-3 g c = λ h t w.
    let v = g.C.Curve.value c.args.curve.now in
    let f1 : FitsSigned w128 c.at-then-at-span-3.result = record { sfits = c.at-then-at-span-3.type_inv } in
    let f2 : FitsSigned w128 c.at-then-at-span-3-2.result = record { sfits = c.at-then-at-span-3-2.type_inv } in
    let k : c.at-then-at-span-3-2.result <ℤ c.at-then-at-span-3.result = true_lt _ _ (simp to_z-of_z at h) in
    above_to v c.requires.opens c.args.limit c.args.at t (omega (arith, w.high)) (omega arith) c.requires.above (rw (← c.at-then-at-span-3.ensures.value, ← c.at-then-at-span-3-2.ensures.value) k)

pub returns-then-at : goal.returns-then-at
returns-then-at g c = λ h t w.
    let v = g.C.Curve.value c.args.curve.now in
    let f1 : FitsSigned w128 c.at-else-at-span-3.result = record { sfits = c.at-else-at-span-3.type_inv } in
    let f2 : FitsSigned w128 c.at-else-at-span-3-2.result = record { sfits = c.at-else-at-span-3-2.type_inv } in
    let f3 : FitsSigned w128 c.at-then-at.result = record { sfits = c.at-then-at.type_inv } in
    let f4 : FitsSigned w128 c.at-then-at-2.result = record { sfits = c.at-then-at-2.type_inv } in
    let k : c.at-else-at-span-3-2.result <ℤ c.at-else-at-span-3.result = true_lt _ _ (simp to_z-of_z at c.if-at.true) in
    let m : c.at-then-at.result ≤ℤ c.at-then-at-2.result = true_le _ _ (simp to_z-of_z at h) in
    ⊎_elim
    (λ lt. above_to v c.requires.opens c.args.limit c.args.at t (omega arith) (omega arith) c.requires.above (rw (← c.at-else-at-span-3.ensures.value, ← c.at-else-at-span-3-2.ensures.value) k))
    (λ ge. above_from v c.requires.opens c.args.limit c.args.at t ge c.requires.above (rw (← c.at-then-at.ensures.value, ← c.at-then-at-2.ensures.value) m))
    (cases_lt t c.args.at)
