use Rattle.std.proofs.Common.{[], IfSome, IfOk, Result, Ok, Err, subst, sym}
use Rattle.std.specs.List.{All}
use Rattle.std.proofs.lemmas.List.Elements.{All-append, All-cons, All-nil}
use Rattle.scene_model.specs.Solids.{IsLeaf}
use Rattle.written_scenes.proofs.scenes.with_leaf.Goals as goal

-- What holds of each good result.
if_ok : {A E : Type 0} {P Q : A → Type 0} (r : Result A E) → ((a : A) → P a → Q a) → IfOk r P → IfOk r Q
if_ok (Ok a) f h = f a h
if_ok (Err e) f h = tt

pub returns-in-Some : goal.returns-in-Some
returns-in-Some c =
    let valid : IsLeaf c.in-Some.leaf = subst (λ one. IfSome one IsLeaf) c.in-Some.is c.requires.one in
    if_ok c.added.result (λ new h.
    subst (All IsLeaf) (sym h)
    (All-append IsLeaf c.args.leaves.items _ c.requires.leaves (All-cons IsLeaf c.in-Some.leaf [] valid (All-nil IsLeaf)))) c.added.ensures
