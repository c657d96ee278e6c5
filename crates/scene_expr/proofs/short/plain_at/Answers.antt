use Rattle.scene_expr.proofs.short.plain_at.Goals as goal

pub returns-in-Some-clause-found : goal.returns-in-Some-clause-found
returns-in-Some-clause-found c = λ set. c.in-Some.ensures.found set c.args.depths
