use Rattle.std.proofs.Common.{◌≡◌, Some, None}
use Rattle.item_blocks.specs.ReadingLaws.{exit}
use Rattle.object_items.specs.Modifiers.{said_of}
use Rattle.object_items.proofs.Moves.{step_fault, step_found, things_alone, said_alone, things_and, said_and}
use Rattle.object_items.proofs.modifier.take_move.Goals as goal

pub returns-in_err-next-in-Some-clause-fault : goal.returns-in_err-next-in-Some-clause-fault
returns-in_err-next-in-Some-clause-fault c =
    let given : c.args.modifiers.now.looks.texture.pigment ≡ Some c.in-Some.pigment = cc c.in-Some.is in
    exit _ _ _ c.from_residual-in_err-next-in-Some.ensures.1 (λ some.
    step_fault c.args.tokens.now c.args.set.now c.args.depths c.args.marks.now (said_of c.args.modifiers.now c.args.tables.now) c.args.at _ _
    (things_and c.args.marks.now c.args.modifiers.now c.args.tables.now c.in-Some.pigment c.add_thing.new.self given c.requires.marks c.in_ok-add_thing-in-Some.ensures.found)
    (c.in_err-next-in-Some.ensures.fault some))

pub returns-in_err-next-in-None-clause-fault : goal.returns-in_err-next-in-None-clause-fault
returns-in_err-next-in-None-clause-fault c =
    let given : c.args.modifiers.now.looks.texture.pigment ≡ None = cc c.in-None.is in
    exit _ _ _ c.from_residual-in_err-next-in-None.ensures.1 (λ some.
    step_fault c.args.tokens.now c.args.set.now c.args.depths c.args.marks.now (said_of c.args.modifiers.now c.args.tables.now) c.args.at _ _
    (things_alone c.args.marks.now c.args.modifiers.now c.args.tables.now given)
    (c.in_err-next-in-None.ensures.fault some))

pub returns-in_ok-next-in-Some-clause-found : goal.returns-in_ok-next-in-Some-clause-found
returns-in_ok-next-in-Some-clause-found c =
    let given : c.args.modifiers.now.looks.texture.pigment ≡ Some c.in-Some.pigment = cc c.in-Some.is in
    let push = c.in_ok-add_thing-in-Some.ensures.found in
    let found = c.in_ok-next-in-Some.ensures.found in
    step_found c.args.tokens.now c.args.set.now c.args.depths c.args.marks.now (said_of c.args.modifiers.now c.args.tables.now) c.args.at _ found.0 _ _
    (things_and c.args.marks.now c.args.modifiers.now c.args.tables.now c.in-Some.pigment c.add_thing.new.self given c.requires.marks push)
    found.1
    (said_and c.args.marks.now c.args.modifiers.now c.args.tables.now c.in-Some.pigment c.add_thing.new.self given c.requires.marks push c.move_things.new.self c.take_thing.new.self c.take_thing.new.x found.0 found.2 found.3 c.take_thing.ensures.taken c.take_thing.ensures.last)

pub returns-in_ok-next-in-None-clause-found : goal.returns-in_ok-next-in-None-clause-found
returns-in_ok-next-in-None-clause-found c =
    let given : c.args.modifiers.now.looks.texture.pigment ≡ None = cc c.in-None.is in
    let found = c.in_ok-next-in-None.ensures.found in
    step_found c.args.tokens.now c.args.set.now c.args.depths c.args.marks.now (said_of c.args.modifiers.now c.args.tables.now) c.args.at _ found.0 _ _
    (things_alone c.args.marks.now c.args.modifiers.now c.args.tables.now given)
    found.1
    (said_alone c.args.marks.now c.args.modifiers.now c.args.tables.now c.move_things-in-None.new.self found.0 given found.2 found.3)
