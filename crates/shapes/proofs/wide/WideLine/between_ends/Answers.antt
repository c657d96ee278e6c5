use Rattle.std.proofs.Common.{arith}
use Rattle.std.proofs.lemmas.Int.{ints}
use Rattle.shapes.proofs.wide.WideLine.between_ends.Goals as goal

pub narrow_wide-requires-2 : goal.narrow_wide-requires-2
narrow_wide-requires-2 c = λ t w. c.requires.low t ((c.narrow_wide.ensures t).0 w).0

pub returns : goal.returns
returns c = λ t.
    let a = c.narrow_wide.ensures t in
    let b = c.narrow_wide-2.ensures t in
    let e = c.turned-below.ensures.value t in
    let f = c.less-above.ensures t in (
      λ w. let k = b.0 w in let m = a.0 k.0 in let p = m.1 in let q = k.1 in (m.0, omega (arith, ints, e), omega (arith, ints, f)),
      λ h. let p = h.1 in let q = h.2 in b.1 (a.1 (h.0, omega (arith, ints, e)), omega (arith, ints, f)),
    )
