use Rattle.text_structure.proofs.Entries.{stopped, gone_over, gone_inside}
use Rattle.text_structure.proofs.ends.entry.Goals as goal

pub returns-in-Stop : goal.returns-in-Stop
returns-in-Stop c = stopped _ _ _ _ c.turn_at.ensures.value c.in-Stop.is c.requires.within

pub returns-in-Over : goal.returns-in-Over
returns-in-Over c = gone_over _ _ _ _ _ _ c.turn_at.ensures.value c.in-Over.is c.in-Over.ensures.ahead.0 c.end_in.ensures.entry

pub returns-in-Inside : goal.returns-in-Inside
returns-in-Inside c = gone_inside _ _ _ _ _ _ _ _ _ c.turn_at.ensures.value c.in-Inside.is c.in-Inside.ensures.ahead.0 c.end_in-last.ensures.entry c.past.ensures.value c.past.ensures.within.0 c.end_in-in-Inside.ensures.entry
