use Rattle.std.proofs.Common.{◌≡◌, Some, [], ◌∷◌, length, drop, ◌+◌, refl, sym, subst, arith}
use Rattle.std.specs.Prelude.{slice_get}
use Rattle.std.specs.List.{All}
use Rattle.std.proofs.lemmas.List.Elements.{All-append, All-cons, All-nil}
use Rattle.std.proofs.lemmas.Option.{slice_get_read}
use Rattle.scene_model.specs.Solids.{IsLeaf}
use Rattle.scene_parser.specs.Placed.{leaf_placed, each, appended}
use Rattle.scene_parser.proofs.Each.{turn_found}
use Rattle.scene_parser.proofs.placed.place_leaves.Goals as goal

pub loop-draft-preserved : goal.loop-draft-preserved
loop-draft-preserved c =
    let at : slice_get c.args.drafts.now c.loop-draft.draft-index ≡ Some c.draft-item.result = slice_get_read c.args.drafts.now (length c.args.drafts.now) c.loop-draft.draft-index c.draft-item.result refl (omega (arith, c.loop-draft-test.true)) c.draft-item.is in
    let turn = turn_found (leaf_placed c.args.numbers.now c.args.things.now) c.args.drafts.now c.loop-draft.draft-index c.draft-item.result c.in-Ok.leaf c.loop-draft.leaves.items _ c.loop-draft.invariant.same at (sym c.in-Ok.ensures.value) in
    let added = All-append IsLeaf c.loop-draft.leaves.items (c.in-Ok.leaf ∷ []) c.loop-draft.invariant.valid (All-cons IsLeaf c.in-Ok.leaf [] c.in-Ok.ensures.valid (All-nil IsLeaf)) in
    record {
      same = subst (λ l. appended c.args.leaves.items (each (leaf_placed c.args.numbers.now c.args.things.now) c.args.drafts.now) ≡ appended l (each (leaf_placed c.args.numbers.now c.args.things.now) (drop (c.loop-draft.draft-index + 1) c.args.drafts.now))) (sym c.in_ok-leaves-in-Ok.ensures.found) turn;
      valid = subst (λ l. All IsLeaf l) (sym c.in_ok-leaves-in-Ok.ensures.found) added;
    }
