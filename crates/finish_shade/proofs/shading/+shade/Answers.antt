use Rattle.std.proofs.Common.{ℕ, ℤ, ◌≡◌, true, false, ap, sym, subst, ◌∙◌, arith}
use Rattle.finish_shade.specs.Amounts.{black, is_weak, weight_of}
use Rattle.finish_shade.specs.Meetings.{ray_back, ray_on}
use Rattle.finish_shade.specs.Shades.{IsShade}
use Rattle.finish_shade.proofs.Alone.{shows_alone}
use Rattle.finish_shade.proofs.Crossed.{leaf_hit}
use Rattle.finish_shade.proofs.Shown.{meets, misses}
use Rattle.finish_shade.proofs.shading.+shade.Goals as goal

pub passed-returns-then-is_weak-clause-shade : goal.passed-returns-then-is_weak-clause-shade
passed-returns-then-is_weak-clause-shade g t c =
    let P : ℤ → Type 0 = λ w. is_weak c.args.scene.now.adc w ≡ true in
    IsShade.weak c.args.levels (ray_on c.args.ray.now c.args.met.now) _
    (subst P (c.weight_of-share.ensures.value ∙ ap (weight_of c.args.weight) c.let_through.ensures.value) (sym c.is_weak.ensures ∙ c.if-is_weak.true))

pub thrown-returns-then-is_weak-clause-shade : goal.thrown-returns-then-is_weak-clause-shade
thrown-returns-then-is_weak-clause-shade g t c =
    let P : ℤ → Type 0 = λ w. is_weak c.args.scene.now.adc w ≡ true in
    IsShade.weak c.args.levels (ray_back c.args.ray.now c.args.met.now) _ (subst P c.weight_of-share.ensures.value (sym c.is_weak.ensures ∙ c.if-is_weak.true))

pub shade-returns-then-levels-eq0-clause-shade : goal.shade-returns-then-levels-eq0-clause-shade
shade-returns-then-levels-eq0-clause-shade g t c =
    let P : ℕ → Type 0 = λ n. IsShade (g.W.World.surfaces c.args.w.now) c.args.scene.now n c.args.ray.now c.args.weight black in
    let none : 0 ≡ c.args.levels = omega (arith, c.if-levels-eq0.true) in subst P none (IsShade.spent c.args.ray.now c.args.weight)

pub shade-returns-then-is_weak-clause-shade : goal.shade-returns-then-is_weak-clause-shade
shade-returns-then-is_weak-clause-shade g t c = IsShade.weak c.args.levels c.args.ray.now c.args.weight (sym c.is_weak.ensures ∙ c.if-is_weak.true)

pub shade-returns-in_default-clause-shade : goal.shade-returns-in_default-clause-shade
shade-returns-in_default-clause-shade g t c =
    misses (g.W.World.surfaces c.args.w.now) c.args.scene.now c.args.levels c.args.ray.now c.args.weight (omega (arith, c.if-levels-eq0.false)) (sym c.is_weak.ensures ∙ c.if-is_weak.false) c.in_default.ensures.none

pub shade-look_at-look-requires-clause-leaf : goal.shade-look_at-look-requires-clause-leaf
shade-look_at-look-requires-clause-leaf g t c = leaf_hit (g.W.World.surfaces c.args.w.now) c.args.scene.now c.args.ray.now 63 false c.in-Some.hit c.requires.stands c.in-Some.ensures.nearest

pub shade-returns-then-shows_itself-clause-shade : goal.shade-returns-then-shows_itself-clause-shade
shade-returns-then-shows_itself-clause-shade g t c =
    shows_alone (g.W.World.surfaces c.args.w.now) c.args.scene.now c.args.levels c.args.ray.now c.args.weight c.in-Some.hit c.look_at-look.result c.alone.result c.requires.stands c.requires.scene
    (omega (arith, c.if-levels-eq0.false)) (sym c.is_weak.ensures ∙ c.if-is_weak.false) c.in-Some.ensures.nearest c.look_at-look.ensures.value (sym c.shows_itself.ensures ∙ c.if-shows_itself.true) c.alone.ensures.value

pub shade-returns-clause-shade : goal.shade-returns-clause-shade
shade-returns-clause-shade g t c =
    meets (g.W.World.surfaces c.args.w.now) c.args.scene.now c.args.levels c.args.ray.now c.args.weight c.in-Some.hit c.met_at-met.result c.lit_by_all-lit.result c.thrown-thrown.result c.passed-passed.result c.shown.result c.opacity.result c.let_through.result
    (omega (arith, c.if-levels-eq0.false)) (sym c.is_weak.ensures ∙ c.if-is_weak.false) c.in-Some.ensures.nearest c.met_at-met.ensures.value c.lit_by_all-lit.ensures.lit c.thrown-thrown.ensures.shade c.passed-passed.ensures.shade
    c.opacity.ensures.value c.let_through.ensures.value c.shown.ensures.value
