use Rattle.scene_expr.proofs.Levels.{settled_fault}
use Rattle.std.proofs.lemmas.Result.{IfErr-weaker}
use Rattle.scene_expr.proofs.reader.call_in.Goals as goal

pub returns-clause-fault : goal.returns-clause-fault
returns-clause-fault c =
    IfErr-weaker c.settle.result _ _ (λ f fault some. settled_fault c.called.result _ _ f c.called.ensures.trouble fault some) c.settle.ensures.fault
