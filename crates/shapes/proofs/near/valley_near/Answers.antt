use Rattle.std.proofs.Common.{arith, ◌≤ℤ◌, ◌<ℤ◌, FitsSigned}
use Rattle.std.proofs.lemmas.Int.{ints, to_z-of_z, by_lt_z}
use mir.Syntax.{w128}
use Rattle.shapes.proofs.Bent.{small_between, le_true, lt_true, true_le, true_lt, false_lt, valley_iff}
use Rattle.shapes.proofs.near.valley_near.Goals as goal

pub returns-then-is_passed : goal.returns-then-is_passed
returns-then-is_passed g c = λ t.
    let f : FitsSigned w128 c.args.limit = c.ranges.limit in
    let k = simp to_z-of_z at c.is_passed.ensures in (
      λ w. absurd (omega (arith, w.low, w.high)),
      λ h. absurd (let m = k c.if-is_passed.true t h.0 in let n = h.1 in omega (arith, ints)),
    )

pub returns-then-at-limit : goal.returns-then-at-limit
returns-then-at-limit g c = λ t.
    let f : FitsSigned w128 c.args.limit = c.ranges.limit in
    simp to_z-of_z at (c.valley.ensures t)

pub first_near-from-requires-clause-askable : goal.first_near-from-requires-clause-askable
first_near-from-requires-clause-askable g c = λ t low high.
    c.requires.near t (record { low = low; high = omega (arith, c.clamped-inside.ensures.high) })

pub first_near-from-requires-clause-rises : goal.first_near-from-requires-clause-rises
first_near-from-requires-clause-rises g c = λ s t low le high h.
    let v = g.C.Curve.value c.args.curve.now in
    let f : FitsSigned w128 c.args.limit = c.ranges.limit in
    let f1 : FitsSigned w128 c.at.result = record { sfits = c.at.type_inv } in
    let n = false_lt _ _ (simp to_z-of_z at c.if-at-limit.false) in
    let k : v c.clamped-inside.result ≤ℤ c.args.limit = rw (← c.at.ensures.value) n in
    let m : v s ≤ℤ c.args.limit = true_le _ _ (simp to_z-of_z at h) in
    simp to_z-of_z (le_true (v t) c.args.limit (small_between v c.requires.opens c.args.limit s t c.clamped-inside.result le (omega arith) m k))

pub first_near-end-requires-clause-rises : goal.first_near-end-requires-clause-rises
first_near-end-requires-clause-rises g c = λ s t low le high h.
    let v = g.C.Curve.value c.args.curve.now in
    let f : FitsSigned w128 c.args.limit = c.ranges.limit in
    let f1 : FitsSigned w128 c.at.result = record { sfits = c.at.type_inv } in
    let n = false_lt _ _ (simp to_z-of_z at c.if-at-limit.false) in
    let k : v c.clamped-inside.result ≤ℤ c.args.limit = rw (← c.at.ensures.value) n in
    let m : c.args.limit <ℤ v s = true_lt _ _ (simp to_z-of_z at h) in
    simp to_z-of_z (lt_true c.args.limit (v t) (by_lt_z c.args.limit (v t) (λ lt. lt) (λ small.
    let j : v s ≤ℤ c.args.limit = small_between v c.requires.opens c.args.limit c.clamped-inside.result s t low le k small in absurd (omega (arith, ints)))))

pub returns : goal.returns
returns g c =
    let f : FitsSigned w128 c.args.limit = c.ranges.limit in
    valley_iff (g.C.Curve.value c.args.curve.now) c.args.limit c.args.span _ c.clamped-inside.result (record {
      low = c.first_near-from.ensures.low;
      high = c.first_near-from.ensures.high;
      before = simp to_z-of_z at c.first_near-from.ensures.before;
      after = simp to_z-of_z at c.first_near-from.ensures.after;
      back_low = c.first_near-end.ensures.low;
      back_high = c.first_near-end.ensures.high;
      back_before = simp to_z-of_z at c.first_near-end.ensures.before;
      back_after = simp to_z-of_z at c.first_near-end.ensures.after;
    })
