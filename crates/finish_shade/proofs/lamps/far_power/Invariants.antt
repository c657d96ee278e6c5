use Rattle.std.proofs.Common.{◌≡◌, ◌≤◌, ◌^◌}
use Rattle.scene_model.specs.Amounts.{IsAmount}
use Rattle.finish_shade.specs.Lamps.{far_power}
use Rattle.finish_shade.proofs.lamps.far_power.Given as goal

abbrev pub invariant-loop-step : goal.invariant-loop-step
invariant-loop-step l = record {
  begun : 1 ≤ l.step;
  value : l.power ≡ far_power l.q l.step;
  amount : IsAmount (2 ^ 46) l.power;
}
