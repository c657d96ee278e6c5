-- Each exit and each result of a block is a case of what it comes to.
use Rattle.std.proofs.Common.{◌≡◌, true, false, ap, ◌∙◌, arith}
use Rattle.std.proofs.lemmas.Result.{IfOk-weaker, IfErr-weaker}
use Rattle.std.specs.Prelude.{nat_eq}
use Rattle.scene_expr.specs.Heads.{sign_at}
use Rattle.scene_expr.specs.Then.{IsThen}
use Rattle.item_blocks.specs.Blocks.{IsStatements}
use Rattle.item_blocks.specs.ReadingLaws.{exit}
use Rattle.item_blocks.proofs.Blocks.{led_fault, first_fault, whole, ends_found, ends_lacking, led_inside}
use Rattle.item_blocks.proofs.block.+blocks.Goals as goal

pub braced-returns-in_err-start-clause-fault : goal.braced-returns-in_err-start-clause-fault
braced-returns-in_err-start-clause-fault g t c = exit _ _ _ c.from_residual.ensures.1 (λ some. IsThen.fault _ c.in_err-start.ensures.value)

pub braced-returns-in_err-begun-clause-fault : goal.braced-returns-in_err-begun-clause-fault
braced-returns-in_err-begun-clause-fault g t c =
    exit _ _ _ c.from_residual-in_err-begun.ensures.1 (λ some. led_fault (g.B.Block.kind c.args.tokens.now c.args.set.now) c.args.tokens.now c.args.depths _ _ _ _ _ c.in_ok-start.ensures.value (c.leads-leads.ensures.value c.args.tokens.now c.args.set.now ∙ ap (g.B.Block.kind c.args.tokens.now c.args.set.now).leads c.word_at.ensures.value) (c.in_err-begun.ensures.fault some))

pub braced-returns-in_err-next-clause-fault : goal.braced-returns-in_err-next-clause-fault
braced-returns-in_err-next-clause-fault g t c =
    exit _ _ _ c.from_residual-in_err-next.ensures.1 (λ some. first_fault (g.B.Block.kind c.args.tokens.now c.args.set.now) c.args.tokens.now c.args.depths _ _ _ _ _ _ _ c.in_ok-start.ensures.value (c.leads-leads.ensures.value c.args.tokens.now c.args.set.now ∙ ap (g.B.Block.kind c.args.tokens.now c.args.set.now).leads c.word_at.ensures.value) c.in_ok-begun.ensures.found (c.in_err-next.ensures.fault some))

pub braced-statements-init : goal.braced-statements-init
braced-statements-init g t c = record {
  some = c.in_ok-start.ensures.depth;
  after = omega (arith, c.in_ok-start.ensures.within.0, c.in_ok-begun.ensures.within.0, c.in_ok-next.ensures.within.0);
  within = c.in_ok-next.ensures.within.1;
  whole = whole (g.B.Block.kind c.args.tokens.now c.args.set.now) c.args.tokens.now c.args.depths _ _ _ _ _ _ _ _ c.in_ok-start.ensures.value (c.leads-leads.ensures.value c.args.tokens.now c.args.set.now ∙ ap (g.B.Block.kind c.args.tokens.now c.args.set.now).leads c.word_at.ensures.value) c.in_ok-begun.ensures.found c.in_ok-next.ensures.found;
}

pub braced-returns-in_err-next-2-clause-fault : goal.braced-returns-in_err-next-2-clause-fault
braced-returns-in_err-next-2-clause-fault g t c =
    let more : nat_eq (sign_at c.args.tokens.now c.statements.next) 125 ≡ false = grind arith in
    exit _ _ _ c.from_residual-in_err-next-2.ensures.1 (λ some. c.statements.invariant.whole _ (IsStatements.fault _ _ _ more (c.in_err-next-2.ensures.fault some)))

pub braced-statements-preserved : goal.braced-statements-preserved
braced-statements-preserved g t c =
    let more : nat_eq (sign_at c.args.tokens.now c.statements.next) 125 ≡ false = grind arith in
    record {
      some = c.statements.invariant.some;
      after = omega (arith, c.statements.invariant.after, c.in_ok-next-2.ensures.within.0);
      within = c.in_ok-next-2.ensures.within.1;
      whole = λ r rest. c.statements.invariant.whole r (IsStatements.further _ _ _ r more c.in_ok-next-2.ensures.found rest);
    }

pub braced-returns-in-None-clause-found : goal.braced-returns-in-None-clause-found
braced-returns-in-None-clause-found g t c =
    let shut : nat_eq (sign_at c.args.tokens.now c.statements.next) 125 ≡ true = grind arith in
    ends_found (g.B.Block.kind c.args.tokens.now c.args.set.now) c.args.tokens.now c.args.depths _ _ _ _ c.statements.invariant.whole shut (c.in-None.ensures c.args.tokens.now c.args.set.now)

pub braced-returns-in-Some-clause-fault : goal.braced-returns-in-Some-clause-fault
braced-returns-in-Some-clause-fault g t c =
    let shut : nat_eq (sign_at c.args.tokens.now c.statements.next) 125 ≡ true = grind arith in
    λ some. rw c.place_at.ensures (ends_lacking (g.B.Block.kind c.args.tokens.now c.args.set.now) c.args.tokens.now c.args.depths _ _ _ _ _ c.statements.invariant.whole shut (c.in-Some.ensures c.args.tokens.now c.args.set.now))

pub led-returns-then-leads-clause-found : goal.led-returns-then-leads-clause-found
led-returns-then-leads-clause-found g t c =
    IfOk-weaker c.braced.result _ _ (λ next found. led_inside (g.B.Block.kind c.args.tokens.now c.args.set.now) c.args.tokens.now c.args.depths c.args.leads _ _ _ c.if-leads.true c.requires.depth found) c.braced.ensures.found

pub led-returns-then-leads-clause-fault : goal.led-returns-then-leads-clause-fault
led-returns-then-leads-clause-fault g t c =
    IfErr-weaker c.braced.result _ _ (λ f fault some. led_inside (g.B.Block.kind c.args.tokens.now c.args.set.now) c.args.tokens.now c.args.depths c.args.leads _ _ _ c.if-leads.true c.requires.depth (fault some)) c.braced.ensures.fault
