use Rattle.std.proofs.Common.{arith, ℤ, pos, ◌≡◌, subst}
use Rattle.std.proofs.lemmas.Int.{ints}
use Rattle.box_probe.specs.Probes.{IsSlope}
use Rattle.box_probe.proofs.probe.Slope.new.Goals as goal

pub returns-else-raw-lt0 : goal.returns-else-raw-lt0
returns-else-raw-lt0 c = let e : pos 0 ≡ c.args.step = omega (arith, ints) in
    let P : ℤ → Type 0 = λ d. IsSlope c.still.result c.args.origin d in subst P e c.still.ensures
