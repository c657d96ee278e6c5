use Rattle.std.proofs.Common.{ap, ◌∙◌, ℤ, [], ◌∷◌}
use Rattle.fix_math.specs.declared.fix.V3.{V3}
use Rattle.shapes.specs.Faces.{seen_from, own, in_ball}
use Rattle.shapes.proofs.MakingLemmas.{seen_own}
use Rattle.shapes.proofs.OutwardLemmas.{globe_outward_same}
use Rattle.shapes.proofs.making.globe.Goals as goal

pub returns-clause-faces : goal.returns-clause-faces
returns-clause-faces c = λ p.
    let l = own c.args.spot.now (seen_from c.args.spot.now.anchor p) in
    ap (λ (v : V3). in_ball c.of-radius.result.value v ∷ []) (seen_own c.of-axes.result c.args.spot.now p c.of-axes.ensures.anchor c.of-axes.ensures.own)
    ∙ ap (λ (r : ℤ). in_ball r l ∷ []) c.of-radius.ensures

pub returns-clause-outward : goal.returns-clause-outward
returns-clause-outward c = λ p.
    let a = c.of-axes.ensures in
    globe_outward_same _ _ _ _ _ _ _ _ (seen_own c.of-axes.result c.args.spot.now p a.anchor a.own) a.first a.second a.third
