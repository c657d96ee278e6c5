use Rattle.std.proofs.Common.{◌<◌, length, ◌∙◌, arith}
use Rattle.std.proofs.lemmas.List.{map-set}
use Rattle.scope_tables.proofs.Scopes.{scope_is, removed_is}
use Rattle.scope_tables.proofs.names.Names.remove_at.Goals as goal

pub returns-then-index-len : goal.returns-then-index-len
returns-then-index-len c =
    let within : c.args.index < length c.self.inside.tables.items = omega (arith, c.if-index-len.true, c.len.ensures) in
    let there = scope_is (λ m. m.entries) c.self.inside.tables.items c.args.self.now c.args.index c.index_mut.result.now c.self.view_is within c.index_mut.ensures.value in
    map-set (λ m. m.entries) c.self.inside.tables.items c.args.index c.discard.new.table
    ∙ removed_is _ c.args.self.now c.args.index c.args.name _ _ c.self.view_is there c.discard.ensures
