use Rattle.std.proofs.Common.{rules, FitsSigned}
use Rattle.std.proofs.lemmas.Int.{to_z-of_z}
use mir.Syntax.{w128}
use Rattle.shapes.proofs.Digits.{short_more, short_none}
use Rattle.shapes.proofs.coefficients.is_short.Goals as goal

pub returns-then-up-lost : goal.returns-then-up-lost
returns-then-up-lost c =
    let a = c.args in let f : FitsSigned w128 a.number.value = search rules in
    short_more a.number.value a.up a.lost a.bits _ _ c.if-lost-up.false c.if-up-lost.true (simp to_z-of_z at c.unsigned_abs-then-up-lost.ensures.value) c.size_of-then-up-lost.ensures

pub returns-else-up-lost : goal.returns-else-up-lost
returns-else-up-lost c =
    let a = c.args in let f : FitsSigned w128 a.number.value = search rules in
    short_none a.number.value a.up a.lost a.bits _ c.if-lost-up.false c.if-up-lost.false (simp to_z-of_z at c.unsigned_abs-else-up-lost.ensures.value)
