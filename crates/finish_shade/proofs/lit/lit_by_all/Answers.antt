use Rattle.std.proofs.Common.{◌+◌, ◌*◌, ◌^◌, ◌∙◌, sym, subst, arith}
use Rattle.finish_shade.specs.Arrivals.{IsLit, unlit}
use Rattle.finish_shade.specs.declared.lit.Lit.{Lit}
use Rattle.finish_shade.proofs.Dull.{unlit_by_all}
use Rattle.finish_shade.proofs.Lighting.{all_lamps, amounts_weaker, one_lamp_more, past_in, read_in}
use Rattle.finish_shade.proofs.lit.lit_by_all.Goals as goal

pub loop-lamp-preserved : goal.loop-lamp-preserved
loop-lamp-preserved g c =
    let i = c.loop-lamp.lamp-index in
    let lamps = c.args.scene.now.lights.items in
    let r = read_in lamps c.deref-lamp-items.result.now i c.lamp-item.result c.deref-lamp-items.ensures.value c.loop-lamp-test.true c.lamp-item.is in
    record {
      fits = c.with_lamp-lit.ensures.fits;
      left = one_lamp_more (g.W.World.surfaces c.args.w.now) c.args.scene.now c.args.dir.now c.args.met.now (unlit c.args.scene.now c.args.met.now) lamps i c.lamp-item.result c.loop-lamp.lit c.with_lamp-lit.result r.0 r.1
          c.loop-lamp.invariant.left c.with_lamp-lit.ensures.lit;
      own = amounts_weaker (2 ^ 41 + i * 2 ^ 43 + 2 ^ 43) (2 ^ 41 + (i + 1) * 2 ^ 43) c.with_lamp-lit.result.own (omega arith) (c.with_lamp-lit.ensures.own (2 ^ 41 + i * 2 ^ 43) c.loop-lamp.invariant.own);
      highlights = amounts_weaker (i * 2 ^ 34 + 2 ^ 34) ((i + 1) * 2 ^ 34) c.with_lamp-lit.result.highlights (omega arith) (c.with_lamp-lit.ensures.highlights (i * 2 ^ 34) c.loop-lamp.invariant.highlights);
    }

pub returns-then-is_dull-clause-lit : goal.returns-then-is_dull-clause-lit
returns-then-is_dull-clause-lit g c =
    let s = g.W.World.surfaces c.args.w.now in
    let P : Lit → Type 0 = λ lit. IsLit s c.args.scene.now c.args.dir.now c.args.met.now (unlit c.args.scene.now c.args.met.now) c.args.scene.now.lights.items lit in
    subst P (sym c.unlit-lit.ensures.value)
    (unlit_by_all s c.args.scene.now c.args.dir.now c.args.met.now c.args.scene.now.lights.items c.requires.stands c.requires.scene (sym c.is_dull.ensures ∙ c.if-is_dull.true))

pub returns-clause-lit : goal.returns-clause-lit
returns-clause-lit g c =
    let lamps = c.args.scene.now.lights.items in
    all_lamps (g.W.World.surfaces c.args.w.now) c.args.scene.now c.args.dir.now c.args.met.now (unlit c.args.scene.now c.args.met.now) lamps c.loop-lamp.lamp-index c.loop-lamp.lit
    (past_in lamps c.deref-lamp-items.result.now c.loop-lamp.lamp-index c.deref-lamp-items.ensures.value (omega (arith, c.loop-lamp-test.false))) c.loop-lamp.invariant.left
