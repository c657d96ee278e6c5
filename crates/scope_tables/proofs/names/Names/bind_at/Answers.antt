use Rattle.std.proofs.Common.{◌<◌, length, ◌∙◌, arith}
use Rattle.std.proofs.lemmas.List.{map-set}
use Rattle.scope_tables.proofs.Scopes.{scope_is, bound_is}
use Rattle.scope_tables.proofs.names.Names.bind_at.Goals as goal

pub returns : goal.returns
returns c =
    let within : c.args.index < length c.self.inside.tables.items = omega (arith, c.if-index-len.false, c.len.ensures) in
    let there = scope_is (λ m. m.entries) c.self.inside.tables.items c.args.self.now c.args.index c.index_mut.result.now c.self.view_is within c.index_mut.ensures.value in
    map-set (λ m. m.entries) c.self.inside.tables.items c.args.index c.put.new.table
    ∙ bound_is _ c.args.self.now c.args.index c.args.name c.args.binding _ _ c.self.view_is there c.in_ok-put.ensures
