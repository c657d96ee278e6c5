use Rattle.std.proofs.Common.{◌<◌, ◌^◌, ◌∙◌, sym, subst, FitsSigned, of_z, to_z, to_z-of_z}
use Rattle.std.specs.Int.{w64}
use Rattle.finish_shade.proofs.Lighting.{adds_light, adds_nothing, high, lamp_near, low}
use Rattle.finish_shade.proofs.lit.with_lamp.Goals as goal

pub returns-then-slant-le0-clause-lit : goal.returns-then-slant-le0-clause-lit
returns-then-slant-le0-clause-lit g c = λ lamps all h.
    let fits : FitsSigned w64 c.cosine-slant.result = record { sfits = c.cosine-slant.type_inv } in
    adds_nothing (g.W.World.surfaces c.args.w.now) c.args.scene.now c.args.dir.now c.args.met.now c.args.lamp.now c.args.lit.now c.way_to-way.result c.unit-direction.result (to_z w64 (of_z w64 c.cosine-slant.result))
    c.way_to-way.ensures.value c.unit-direction.ensures.value (to_z-of_z fits ∙ c.cosine-slant.ensures.value) (low (to_z w64 (of_z w64 c.cosine-slant.result)) c.if-slant-le0.true) lamps all h

pub arriving_light-light-requires-clause-near : goal.arriving_light-light-requires-clause-near
arriving_light-light-requires-clause-near g c = subst (λ n. n < 2 ^ 40) (sym c.length-distance.ensures.value) (lamp_near c.way_to-way.result c.way_to-way.ensures.small)

pub returns-clause-lit : goal.returns-clause-lit
returns-clause-lit g c = λ lamps all h.
    let fits : FitsSigned w64 c.cosine-slant.result = record { sfits = c.cosine-slant.type_inv } in
    adds_light (g.W.World.surfaces c.args.w.now) c.args.scene.now c.args.dir.now c.args.met.now c.args.lamp.now c.args.lit.now c.shone_upon.result c.way_to-way.result c.unit-direction.result (to_z w64 (of_z w64 c.cosine-slant.result)) c.length-distance.result c.arriving-arriving.result c.arriving_light-light.result
    c.way_to-way.ensures.value c.unit-direction.ensures.value (to_z-of_z fits ∙ c.cosine-slant.ensures.value) c.length-distance.ensures.value (high (to_z w64 (of_z w64 c.cosine-slant.result)) c.if-slant-le0.false) c.arriving-arriving.ensures.arrives c.arriving_light-light.ensures.value c.shone_upon.ensures.value lamps all h
