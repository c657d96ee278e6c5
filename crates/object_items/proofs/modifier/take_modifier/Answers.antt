use Rattle.std.proofs.Common.{◌≡◌, Some}
use Rattle.item_blocks.specs.ReadingLaws.{exit}
use Rattle.item_blocks.specs.Tokens.{word_at}
use Rattle.object_items.specs.declared.modifier.ModifierPart.{ModifierPart}
use Rattle.object_items.specs.Modifiers.{said_of, modifier_part}
use Rattle.object_items.proofs.Modifies.{look_fault, look_found, bound_fault, bound_found}
use Rattle.object_items.proofs.modifier.take_modifier.Goals as goal

pub returns-in_err-next-in-Look-clause-fault : goal.returns-in_err-next-in-Look-clause-fault
returns-in_err-next-in-Look-clause-fault c =
    let word : modifier_part (word_at c.args.tokens.now c.args.at) c.args.mesh ≡ Some (ModifierPart.Look c.in-Look.part) = cc (c.word_at.ensures.value, c.modifier_part.ensures.value, c.in-Some.is, c.in-Look.is) in
    exit _ _ _ c.from_residual.ensures.1 (λ some.
    look_fault c.args.tokens.now c.args.set.now c.args.depths c.args.marks.now (said_of c.args.modifiers.now c.args.tables.now) c.args.at _ c.in-Look.part _ word (c.in_err-next-in-Look.ensures.fault some))

pub returns-in_ok-next-in-Look-clause-found : goal.returns-in_ok-next-in-Look-clause-found
returns-in_ok-next-in-Look-clause-found c =
    let word : modifier_part (word_at c.args.tokens.now c.args.at) c.args.mesh ≡ Some (ModifierPart.Look c.in-Look.part) = cc (c.word_at.ensures.value, c.modifier_part.ensures.value, c.in-Some.is, c.in-Look.is) in
    look_found c.args.tokens.now c.args.set.now c.args.depths c.args.marks.now (said_of c.args.modifiers.now c.args.tables.now) c.args.at _ c.in-Look.part _ _ word c.in_ok-next-in-Look.ensures.found

pub returns-in_err-next-in-Bound-clause-fault : goal.returns-in_err-next-in-Bound-clause-fault
returns-in_err-next-in-Bound-clause-fault c =
    let word : modifier_part (word_at c.args.tokens.now c.args.at) c.args.mesh ≡ Some ModifierPart.Bound = cc (c.word_at.ensures.value, c.modifier_part.ensures.value, c.in-Some.is, c.in-Bound.is) in
    exit _ _ _ c.from_residual-in_err-next-in-Bound.ensures.1 (λ some.
    bound_fault c.args.tokens.now c.args.set.now c.args.depths c.args.marks.now (said_of c.args.modifiers.now c.args.tables.now) c.args.at _ _ word c.in_err-next-in-Bound.ensures.fault)

pub returns-in_ok-next-in-Bound-clause-found : goal.returns-in_ok-next-in-Bound-clause-found
returns-in_ok-next-in-Bound-clause-found c =
    let word : modifier_part (word_at c.args.tokens.now c.args.at) c.args.mesh ≡ Some ModifierPart.Bound = cc (c.word_at.ensures.value, c.modifier_part.ensures.value, c.in-Some.is, c.in-Bound.is) in
    bound_found c.args.tokens.now c.args.set.now c.args.depths c.args.marks.now (said_of c.args.modifiers.now c.args.tables.now) c.args.at _ _ word c.in_ok-next-in-Bound.ensures.found
