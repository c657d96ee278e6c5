use Rattle.shapes.proofs.MakingLemmas.{seen_own, tube_same}
use Rattle.shapes.proofs.OutwardLemmas.{tube_outward_same}
use Rattle.shapes.proofs.making.tube.Goals as goal

pub returns-clause-faces : goal.returns-clause-faces
returns-clause-faces c = λ p. tube_same _ _ _ _ _ _ (seen_own c.of-axes.result c.args.spot.now p c.of-axes.ensures.anchor c.of-axes.ensures.own) c.of-radius.ensures c.of-height.ensures

pub returns-clause-outward : goal.returns-clause-outward
returns-clause-outward c = λ p face.
    let a = c.of-axes.ensures in
    tube_outward_same _ _ _ _ _ _ _ _ face (seen_own c.of-axes.result c.args.spot.now p a.anchor a.own) a.first a.second a.third
