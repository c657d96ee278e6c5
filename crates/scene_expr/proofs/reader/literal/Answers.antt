use Rattle.std.proofs.Common.{sym}
use Rattle.std.proofs.lemmas.Result.{IfErr-weaker}
use Rattle.scene_expr.proofs.Levels.{settled_fault}
use Rattle.scene_expr.proofs.reader.literal.Goals as goal

pub returns-clause-fault : goal.returns-clause-fault
returns-clause-fault c =
    rw (sym c.text_at.ensures)
    (IfErr-weaker c.settle.result _ _ (λ f fault some. settled_fault c.text.result _ _ f c.text.ensures.trouble fault some) c.settle.ensures.fault)
