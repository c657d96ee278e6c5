use Rattle.shade_rows.proofs.stages.light.Goals as goal

pub returns : goal.returns
returns c = record { place = c.place.ensures; colour = c.rgb.ensures; spot = c.spot.ensures; fade = c.fade.ensures }
