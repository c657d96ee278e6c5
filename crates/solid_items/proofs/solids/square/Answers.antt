use Rattle.std.proofs.Common.{◌≡◌, FitsSigned, to_z-of_z, ap, ◌∙◌}
use Rattle.std.specs.Int.{w128}
use Rattle.std.specs.Prelude.{unsigned_abs}
use Rattle.fix_math.specs.Vectors.{dot_of}
use Rattle.solid_items.proofs.Ways.{dot_some, dot_most}
use Rattle.solid_items.proofs.solids.square.Goals as goal

pub returns-clause-value : goal.returns-clause-value
returns-clause-value c =
    let fits : FitsSigned w128 c.dot.result = record { sfits = c.dot.type_inv } in
    c.unsigned_abs.ensures.value ∙ ap unsigned_abs (to_z-of_z fits ∙ c.dot.ensures.value)

pub returns-clause-least : goal.returns-clause-least
returns-clause-least c =
    let fits : FitsSigned w128 c.dot.result = record { sfits = c.dot.type_inv } in
    let is : c.unsigned_abs.result ≡ unsigned_abs (dot_of c.args.way.now c.args.way.now) = c.unsigned_abs.ensures.value ∙ ap unsigned_abs (to_z-of_z fits ∙ c.dot.ensures.value) in
    rw is (dot_some c.args.way.now c.requires.some)

pub returns-clause-most : goal.returns-clause-most
returns-clause-most c =
    let fits : FitsSigned w128 c.dot.result = record { sfits = c.dot.type_inv } in
    let is : c.unsigned_abs.result ≡ unsigned_abs (dot_of c.args.way.now c.args.way.now) = c.unsigned_abs.ensures.value ∙ ap unsigned_abs (to_z-of_z fits ∙ c.dot.ensures.value) in
    rw is (dot_most c.args.way.now c.requires.small)
