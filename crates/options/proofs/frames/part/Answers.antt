-- The part is small, and stays what it is in 64 bits.
use Rattle.std.proofs.Common.{FitsSigned, w64}
use Rattle.std.proofs.lemmas.Int.{to_z-of_z}
use mir.Syntax.{w128}
use Rattle.options.proofs.Clocks.{part_facts}
use Rattle.options.proofs.frames.part.Goals as goal

pub overflow_cast-result : goal.overflow_cast-result
overflow_cast-result c =
    let facts = part_facts c.args.initial c.args.end c.args.step c.args.steps c.way.result c.from.result c.rounded.result
    c.requires.begins c.requires.ends c.requires.within c.requires.some (record { sfits = c.way.type_inv }) (record { sfits = c.from.type_inv })
    c.way.ensures c.from.ensures c.rounded.ensures.value in
    let wide : FitsSigned w128 c.rounded.result = record { sfits = c.rounded.type_inv } in
    simp to_z-of_z facts.2

pub returns-clause-value : goal.returns-clause-value
returns-clause-value c =
    let facts = part_facts c.args.initial c.args.end c.args.step c.args.steps c.way.result c.from.result c.rounded.result
    c.requires.begins c.requires.ends c.requires.within c.requires.some (record { sfits = c.way.type_inv }) (record { sfits = c.from.type_inv })
    c.way.ensures c.from.ensures c.rounded.ensures.value in
    let wide : FitsSigned w128 c.rounded.result = record { sfits = c.rounded.type_inv } in
    let fits : FitsSigned w64 c.rounded.result = facts.2 in
    simp to_z-of_z facts.0

pub returns-clause-small : goal.returns-clause-small
returns-clause-small c =
    let facts = part_facts c.args.initial c.args.end c.args.step c.args.steps c.way.result c.from.result c.rounded.result
    c.requires.begins c.requires.ends c.requires.within c.requires.some (record { sfits = c.way.type_inv }) (record { sfits = c.from.type_inv })
    c.way.ensures c.from.ensures c.rounded.ensures.value in
    let wide : FitsSigned w128 c.rounded.result = record { sfits = c.rounded.type_inv } in
    let fits : FitsSigned w64 c.rounded.result = facts.2 in
    simp to_z-of_z facts.1
