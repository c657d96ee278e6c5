use Rattle.shapes.proofs.MakingLemmas.{seen_own, cuboid_same}
use Rattle.shapes.proofs.OutwardLemmas.{cuboid_outward_same}
use Rattle.shapes.proofs.making.cuboid.Goals as goal

pub returns-clause-faces : goal.returns-clause-faces
returns-clause-faces c = λ p. cuboid_same _ _ _ _ _ _ _ _ (seen_own c.of-axes.result c.args.spot.now p c.of-axes.ensures.anchor c.of-axes.ensures.own) c.of-x.ensures c.of-y.ensures c.of-z.ensures

pub returns-clause-outward : goal.returns-clause-outward
returns-clause-outward c = λ face. let a = c.of-axes.ensures in cuboid_outward_same _ _ _ _ _ _ face a.first a.second a.third
