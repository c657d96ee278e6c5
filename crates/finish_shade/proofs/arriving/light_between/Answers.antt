use Rattle.std.proofs.Common.{ap, sym, subst, ◌∙◌, true, List, ℤ, arith}
use Rattle.finish_shade.specs.Amounts.{filtered}
use Rattle.finish_shade.proofs.Between.{Leads, begun, darkened, further, reached, white_amounts}
use Rattle.finish_shade.proofs.Crossed.{leaf_hit}
use Rattle.finish_shade.proofs.arriving.light_between.Goals as goal

pub loop-hit-init : goal.loop-hit-init
loop-hit-init g c = record {
  fits = c.requires.fits;
  leads = begun (g.W.World.surfaces c.args.w.now) c.args.scene.now c.args.ray.now c.args.end;
  amounts = white_amounts;
}

pub look_at-colour-requires-clause-leaf : goal.look_at-colour-requires-clause-leaf
look_at-colour-requires-clause-leaf g c = leaf_hit (g.W.World.surfaces c.args.w.now) c.args.scene.now c.args.ray.now c.loop-hit.after true c.in-Some.hit c.requires.stands c.in-Some.ensures.nearest

pub returns-then-is_opaque-clause-passes : goal.returns-then-is_opaque-clause-passes
returns-then-is_opaque-clause-passes g c =
    darkened (g.W.World.surfaces c.args.w.now) c.args.scene.now c.args.ray.now c.args.end c.loop-hit.after c.loop-hit.light c.in-Some.hit c.look_at-colour.result c.loop-hit.invariant.leads c.in-Some.ensures.nearest
    (omega (arith, c.if-hit-end.false)) c.look_at-colour.ensures.value (sym c.is_opaque.ensures ∙ c.if-is_opaque.true)

pub loop-hit-preserved : goal.loop-hit-preserved
loop-hit-preserved g c =
    let s = g.W.World.surfaces c.args.w.now in
    let P : List ℤ → Type 0 = Leads s c.args.scene.now c.args.ray.now c.args.end c.in-Some.hit.t in
    record {
      fits = c.nearest.ensures.fits;
      leads = subst P (sym (c.filtered-light.ensures.value ∙ ap (filtered c.loop-hit.light) c.let_through.ensures.value))
          (further s c.args.scene.now c.args.ray.now c.args.end c.loop-hit.after c.loop-hit.light c.in-Some.hit c.look_at-colour.result c.loop-hit.invariant.leads c.in-Some.ensures.nearest
          (omega (arith, c.if-hit-end.false)) c.look_at-colour.ensures.value (sym c.is_opaque.ensures ∙ c.if-is_opaque.false));
      amounts = c.filtered-light.ensures.amounts;
    }

pub returns-then-hit-end-clause-passes : goal.returns-then-hit-end-clause-passes
returns-then-hit-end-clause-passes g c =
    reached (g.W.World.surfaces c.args.w.now) c.args.scene.now c.args.ray.now c.args.end c.loop-hit.after c.loop-hit.light c.loop-hit.invariant.leads
    (λ t object leaf h. omega (arith, c.if-hit-end.true, c.in-Some.ensures.nearest.nearest t object leaf h))

pub returns-in_default-clause-passes : goal.returns-in_default-clause-passes
returns-in_default-clause-passes g c =
    reached (g.W.World.surfaces c.args.w.now) c.args.scene.now c.args.ray.now c.args.end c.loop-hit.after c.loop-hit.light c.loop-hit.invariant.leads
    (λ t object leaf h. absurd (c.in_default.ensures.none t object leaf h))
