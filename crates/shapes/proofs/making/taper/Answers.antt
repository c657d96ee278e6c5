use Rattle.std.proofs.Common.{arith, ◌≡◌, ◌∙◌, ap}
use Rattle.std.proofs.lemmas.Int.{ints}
use Rattle.std.specs.Int.{int_max}
use Rattle.fix_math.specs.declared.fix.V3.{V3}
use Rattle.shapes.specs.Faces.{seen_from, long, slope_of}
use Rattle.shapes.proofs.MakingLemmas.{seen_own, taper_same, radius_same}
use Rattle.shapes.proofs.OutwardLemmas.{taper_outward_same, form_row_is}
use Rattle.shapes.proofs.making.taper.Goals as goal

pub of-height-requires-clause-low : goal.of-height-requires-clause-low
of-height-requires-clause-low c = let s = c.requires.some in omega (arith, ints)

pub returns-clause-faces : goal.returns-clause-faces
returns-clause-faces c = λ p.
    let spot = c.args.spot.now in
    let seen : seen_from c.of-axes.result.anchor p ≡ seen_from spot.anchor p = ap (λ (a : V3). seen_from a p) c.of-axes.ensures.anchor in
    let k = c.slopes-slope.ensures in
    let m = radius_same _ _ _ _ _ _ _ _ _ _ k.x k.y k.z c.of-start.ensures seen in
    let w : c.of-widest.result.value ≡ long spot (int_max c.args.ra c.args.rb) = c.of-widest.ensures ∙ ap (long spot) c.greater.ensures in
    taper_same _ _ _ _ _ _ _ _ (seen_own c.of-axes.result spot p c.of-axes.ensures.anchor c.of-axes.ensures.own) w m c.of-height.ensures

pub returns-clause-outward : goal.returns-clause-outward
returns-clause-outward c = λ p face.
    let spot = c.args.spot.now in
    let a = c.of-axes.ensures in
    let seen : seen_from c.of-axes.result.anchor p ≡ seen_from spot.anchor p = ap (λ (a : V3). seen_from a p) a.anchor in
    let k = c.slopes-slope.ensures in
    let m = radius_same _ _ _ _ _ _ _ _ _ _ k.x k.y k.z c.of-start.ensures seen in
    taper_outward_same _ _ _ _ _ _ _ _ _ _ _ _ face (seen_own c.of-axes.result spot p a.anchor a.own) a.first a.second a.third m
    (form_row_is c.slopes-slope.result (slope_of c.args.ra c.args.rb c.args.h c.args.axis.now c.args.xform.now spot) k.x k.y k.z)
