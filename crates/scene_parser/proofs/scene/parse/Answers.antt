use Rattle.std.proofs.Common.{arith, refl}
use Rattle.item_blocks.specs.ReadingLaws.{exit}
use Rattle.scene_parser.specs.Scenes.{draft_seen}
use Rattle.scene_parser.proofs.Items.{begins, further, stops, ends}
use Rattle.scene_parser.proofs.scene.parse.Goals as goal

pub items-init : goal.items-init
items-init c = record {
  within = omega arith;
  whole = begins c.args.tokens.now c.args.set.now _ _ c.in_ok-draft.ensures.found refl;
  good = c.in_ok-draft.ensures.good;
}

pub returns-in_err-further-clause-fault : goal.returns-in_err-further-clause-fault
returns-in_err-further-clause-fault c =
    exit _ _ _ c.from_residual-in_err-further.ensures.1 (λ some.
    stops c.args.tokens.now c.args.set.now (draft_seen c.items.draft) c.items.next _ c.item_at.result (omega (arith, c.items-test.true)) c.item_at.ensures (c.in_err-further.ensures.fault some) c.items.invariant.whole)

pub items-preserved : goal.items-preserved
items-preserved c = record {
  within = c.in_ok-further.ensures.within.1;
  whole = further c.args.tokens.now c.args.set.now (draft_seen c.items.draft) (draft_seen c.in_ok-further.further) c.items.next c.in_ok-further.behind c.item_at.result (omega (arith, c.items-test.true)) c.item_at.ensures c.in_ok-further.ensures.found c.items.invariant.whole;
  good = c.in_ok-further.ensures.good;
}

pub returns-clause-found : goal.returns-clause-found
returns-clause-found c = ends c.args.tokens.now c.args.set.now (draft_seen c.items.draft) c.items.next (omega (arith, c.items-test.false)) c.items.invariant.whole
