use Rattle.std.proofs.Common.{arith, rules, w64, ℤ, IsTrue, FitsSigned, ◌≡◌, ◌≤ℤ◌, true, sym}
use Rattle.std.proofs.lemmas.Int.{ints, to_z-of_z}
use lib.Signed.{le_z}
use Rattle.box_probe.specs.Probes.{fine}
use Rattle.box_probe.proofs.probe.Probe.meets.Goals as goal

le_true : (a b : ℤ) → a ≤ℤ b → le_z a b ≡ true
le_true a b h = sym (omega (arith, ints))

is_true : (a b : ℤ) → a ≤ℤ b → IsTrue (le_z a b)
is_true a b h = rw (le_true a b h) (search rules)

pub returns : goal.returns
returns c = λ ray t p lt low high inside.
    let f1 : FitsSigned w64 c.enters-near_x.result = record { sfits = c.enters-near_x.type_inv } in
    let f2 : FitsSigned w64 c.enters-near_y.result = record { sfits = c.enters-near_y.type_inv } in
    let f3 : FitsSigned w64 c.enters-near_z.result = record { sfits = c.enters-near_z.type_inv } in
    let f4 : FitsSigned w64 c.leaves-far_x.result = record { sfits = c.leaves-far_x.type_inv } in
    let f5 : FitsSigned w64 c.leaves-far_y.result = record { sfits = c.leaves-far_y.type_inv } in
    let f6 : FitsSigned w64 c.leaves-far_z.result = record { sfits = c.leaves-far_z.type_inv } in
    let f7 : FitsSigned w64 c.args.from = c.ranges.from in
    let f8 : FitsSigned w64 c.args.end = c.ranges.end in
    let g1 : FitsSigned w64 c.later.result = record { sfits = c.later.type_inv } in
    let g2 : FitsSigned w64 c.later-2.result = record { sfits = c.later-2.type_inv } in
    let g3 : FitsSigned w64 c.later-near.result = record { sfits = c.later-near.type_inv } in
    let g4 : FitsSigned w64 c.sooner.result = record { sfits = c.sooner.type_inv } in
    let g5 : FitsSigned w64 c.sooner-2.result = record { sfits = c.sooner-2.type_inv } in
    let g6 : FitsSigned w64 c.sooner-far.result = record { sfits = c.sooner-far.type_inv } in
    let xn : c.enters-near_x.result ≤ℤ fine t = rw c.enters-near_x.ensures (p.x.near _ t lt inside.x) in
    let xf : fine t ≤ℤ c.leaves-far_x.result = rw c.leaves-far_x.ensures (p.x.far _ t lt inside.x) in
    let yn : c.enters-near_y.result ≤ℤ fine t = rw c.enters-near_y.ensures (p.y.near _ t lt inside.y) in
    let yf : fine t ≤ℤ c.leaves-far_y.result = rw c.leaves-far_y.ensures (p.y.far _ t lt inside.y) in
    let zn : c.enters-near_z.result ≤ℤ fine t = rw c.enters-near_z.ensures (p.z.near _ t lt inside.z) in
    let zf : fine t ≤ℤ c.leaves-far_z.result = rw c.leaves-far_z.ensures (p.z.far _ t lt inside.z) in
    let a1 = simp to_z-of_z at (c.later.ensures (fine t)) in
    let a2 = simp to_z-of_z at (c.later-2.ensures (fine t)) in
    let a3 = simp to_z-of_z at (c.later-near.ensures (fine t)) in
    let b1 = simp to_z-of_z at (c.sooner.ensures (fine t)) in
    let b2 = simp to_z-of_z at (c.sooner-2.ensures (fine t)) in
    let b3 = simp to_z-of_z at (c.sooner-far.ensures (fine t)) in
    let near : c.later-near.result ≤ℤ fine t = a3 (a1 xn yn) (a2 zn low) in
    let far : fine t ≤ℤ c.sooner-far.result = b3 (b1 xf yf) (b2 zf high) in
    simp to_z-of_z (is_true c.later-near.result c.sooner-far.result (omega (arith, ints)))
