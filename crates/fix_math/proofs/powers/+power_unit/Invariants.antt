use Rattle.fix_math.proofs.powers.+power_unit.Given as goal

abbrev pub decreases-power_unit : goal.decreases-power_unit
decreases-power_unit l = l.n
