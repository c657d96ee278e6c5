use Rattle.std.proofs.Common.{◌+◌, ◌^◌, sym, subst}
use Rattle.scene_model.specs.Amounts.{AreAmounts}
use Rattle.finish_shade.proofs.Lighting.{amounts_sum}
use Rattle.finish_shade.proofs.lit.shone_upon.Goals as goal

pub returns-clause-own : goal.returns-clause-own
returns-clause-own c = λ n h.
    subst (AreAmounts (n + 2 ^ 43)) (sym c.with_light.ensures) (amounts_sum n (2 ^ 43) c.args.lit.now.own c.diffuse_part-diffuse.result h c.diffuse_part-diffuse.ensures.amounts)

pub returns-clause-highlights : goal.returns-clause-highlights
returns-clause-highlights c = λ n h.
    subst (AreAmounts (n + 2 ^ 34)) (sym c.with_light-2.ensures) (amounts_sum n (2 ^ 34) c.args.lit.now.highlights c.highlights-shining.result h c.highlights-shining.ensures.amounts)
