use Rattle.shelf.proofs.HavePicks.{have_picks}
use Rattle.shelf.proofs.law.every_image_has_picks.Goals as goal

pub returns : goal.returns
returns c = have_picks
