use Rattle.std.proofs.Common.{ap, ◌^◌, ℤ, pos, int_le, [], ◌∷◌}
use Rattle.fix_math.specs.declared.fix.V3.{V3}
use Rattle.shapes.specs.Faces.{seen_from}
use Rattle.shapes.proofs.QuadricLemmas.{AreTermsOf, AreShifted, component_small, fewest_is, gradient_same, quadric_same}
use Rattle.shapes.proofs.coefficients.conic.Goals as goal

pub of-long-requires-clause-each : goal.of-long-requires-clause-each
of-long-requires-clause-each c = component_small c.args.c.now (2 ^ 28) c.requires.each

pub returns-clause-faces : goal.returns-clause-faces
returns-clause-faces c = λ p.
    let x = c.args.xform.now in let u : V3 = seen_from c.args.spot.now.anchor p in
    let long = c.of-long.result in let lost = c.fewest-lost.result in
    let o = c.of-long.ensures in let f = c.fewest-lost.ensures in let h = c.shortened-terms.ensures in
    let s : AreTermsOf long c.args.c.now x = record { xx = o.xx; yy = o.yy; zz = o.zz; xy = o.xy; xz = o.xz; yz = o.yz; x = o.x; y = o.y; z = o.z; one = o.one } in
    let k : AreShifted c.shortened-terms.result long lost = record { xx = h.xx; yy = h.yy; zz = h.zz; xy = h.xy; xz = h.xz; yz = h.yz; x = h.x; y = h.y; z = h.z; one = h.one } in
    let e = fewest_is long c.args.c.now x lost s f.small f.passes f.first in
    ap (λ (n : ℤ). int_le n (pos 0) ∷ []) (quadric_same c.shortened-terms.result long c.args.c.now x lost u s k e)

pub returns-clause-outward : goal.returns-clause-outward
returns-clause-outward c = λ p.
    let x = c.args.xform.now in let u : V3 = seen_from c.args.spot.now.anchor p in
    let long = c.of-long.result in let lost = c.fewest-lost.result in
    let o = c.of-long.ensures in let f = c.fewest-lost.ensures in let h = c.shortened-terms.ensures in
    let s : AreTermsOf long c.args.c.now x = record { xx = o.xx; yy = o.yy; zz = o.zz; xy = o.xy; xz = o.xz; yz = o.yz; x = o.x; y = o.y; z = o.z; one = o.one } in
    let k : AreShifted c.shortened-terms.result long lost = record { xx = h.xx; yy = h.yy; zz = h.zz; xy = h.xy; xz = h.xz; yz = h.yz; x = h.x; y = h.y; z = h.z; one = h.one } in
    let e = fewest_is long c.args.c.now x lost s f.small f.passes f.first in
    gradient_same c.shortened-terms.result long c.args.c.now x lost u s k e
