use Rattle.std.proofs.Common.{ℕ, Option, subst, sym, ⊎_elim, arith}
use Rattle.std.proofs.lemmas.Bool.{cases_order}
use Rattle.csg_hits.specs.Outlooks.{IsLeast, IsUnstruck}
use Rattle.csg_hits.specs.Rows.{shape_in}
use Rattle.csg_hits.proofs.search.first_of_shape.Goals as goal

pub loop-t-preserved : goal.loop-t-preserved
loop-t-preserved c = record {
  low = (let k = (c.evaluate-found.ensures c.args.end).ahead.above (omega arith) in omega (arith, c.loop-t.invariant.low));
  passed = λ s a b below. ⊎_elim
      (λ e. let P : ℕ → Type 0 = λ k. IsUnstruck (shape_in c.args.rows.now c.args.shape.now k).strikes in
      let Q : Option ℕ → Type 0 = IsLeast (shape_in c.args.rows.now c.args.shape.now c.loop-t.t).strikes in
      subst P (sym e) (subst Q c.in-None.is (c.evaluate-found.ensures c.args.end).first))
      (⊎_elim (λ lt. c.loop-t.invariant.passed s a lt below) (λ gt. (c.evaluate-found.ensures c.args.end).ahead.quiet s gt b below))
      (cases_order s c.loop-t.t);
}

pub loop-t-smaller : goal.loop-t-smaller
loop-t-smaller c = let k = (c.evaluate-found.ensures c.args.end).ahead.above (omega arith) in omega arith

pub returns-in-Some-clause-found : goal.returns-in-Some-clause-found
returns-in-Some-clause-found c = record {
  low = c.loop-t.invariant.low;
  high = c.loop-t-test.true;
  struck = (let Q : Option ℕ → Type 0 = IsLeast (shape_in c.args.rows.now c.args.shape.now c.loop-t.t).strikes in subst Q c.in-Some.is (c.evaluate-found.ensures c.args.end).first);
  before = λ s a b n. c.loop-t.invariant.passed s a b (omega arith) n;
}

pub returns-clause-none : goal.returns-clause-none
returns-clause-none c = λ s a b n. c.loop-t.invariant.passed s a (omega arith) b n
