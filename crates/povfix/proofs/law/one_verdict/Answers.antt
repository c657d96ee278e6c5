use Rattle.povfix.proofs.OneMeaning.{one_shown}
use Rattle.povfix.proofs.Verdicts.{one_verdict}
use Rattle.povfix.proofs.law.one_verdict.Goals as goal

pub returns : goal.returns
returns c = one_verdict c.one_expansion.ensures c.one_scene.ensures.scene (one_shown c.one_shade.ensures)
