use Rattle.povfix.proofs.OneMeaning.{one_meaning, one_shown}
use Rattle.povfix.proofs.law.one_meaning.Goals as goal

pub returns : goal.returns
returns c = one_meaning c.one_expansion.ensures c.one_scene.ensures.scene (one_shown c.one_shade.ensures)
