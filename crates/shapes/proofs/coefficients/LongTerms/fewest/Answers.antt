use Rattle.std.proofs.Common.{◌≡◌, ◌∙◌, ap, arith, ⊎_elim, sym}
use Rattle.std.proofs.lemmas.Bool.{cases_lt}
use Rattle.shapes.specs.Quadrics.{are_terms_small}
use Rattle.shapes.proofs.QuadricLemmas.{small_at_last}
use Rattle.shapes.proofs.coefficients.LongTerms.fewest.Goals as goal

pub loop-lost-preserved : goal.loop-lost-preserved
loop-lost-preserved c =
    let lost = c.loop-lost.lost in let before = c.loop-lost.invariant in record {
      most = omega (arith, c.loop-lost-test.true);
      first = λ j lt.
          ⊎_elim (λ earlier. before.first j earlier)
          (λ here. let same : j ≡ lost = omega arith in ap (are_terms_small c.args.self.now) same ∙ sym c.fit.ensures ∙ c.if-fit.false)
          (cases_lt j lost);
    }

pub returns-clause-passes : goal.returns-clause-passes
returns-clause-passes c =
    let last : c.loop-lost.lost ≡ 100 = omega (arith, c.loop-lost.invariant.most, c.loop-lost-test.false) in
    ap (are_terms_small c.args.self.now) last ∙ small_at_last c.args.self.now
