use Rattle.std.proofs.Common.{◌<◌, IfSome, subst}
use Rattle.scene_model.specs.Solids.{IsLeaf}
use Rattle.picture_rows.proofs.Added.{all_added}
use Rattle.picture_rows.proofs.stages.with_leaf.Goals as goal

pub returns-in-Some-clause-leaves : goal.returns-in-Some-clause-leaves
returns-in-Some-clause-leaves c =
    let valid : IsLeaf c.in-Some.leaf = subst (λ one. IfSome one IsLeaf) c.in-Some.is c.requires.one in
    all_added (λ new. new.items) IsLeaf c.args.leaves.items c.in-Some.leaf c.added.result c.requires.leaves valid c.added.ensures

pub returns-in-Some-clause-textures : goal.returns-in-Some-clause-textures
returns-in-Some-clause-textures c =
    let there : c.in-Some.leaf.texture < c.args.textures = subst (λ one. IfSome one (λ leaf. leaf.texture < c.args.textures)) c.in-Some.is c.requires.texture in
    all_added (λ new. new.items) (λ leaf. leaf.texture < c.args.textures) c.args.leaves.items c.in-Some.leaf c.added.result c.requires.textures there c.added.ensures
