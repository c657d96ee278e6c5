use Rattle.std.proofs.Common.{◌≡◌, ◌∙◌, ap, pos, ℤ, ◌^◌, ◌-◌, ◌-ℤ◌, ◌*ℤ◌, refl}
use Rattle.fix_math.specs.Matrices.{along, entry}
use Rattle.fix_math.specs.Numbers.{rnd}
use Rattle.fix_math.specs.Vectors.{dot}
use Rattle.shapes.proofs.making.slopes.Goals as goal

pub slope-x-requires-clause-along : goal.slope-x-requires-clause-along
slope-x-requires-clause-along c =
    let n = c.requires.placed.n in
    c.mixed-along_x.ensures.small (2 ^ 44) (rw c.of-first.ensures.x n.first.first) (rw c.of-second.ensures.x n.second.first) (rw c.of-third.ensures.x n.third.first)

pub slope-y-requires-clause-along : goal.slope-y-requires-clause-along
slope-y-requires-clause-along c =
    let n = c.requires.placed.n in
    c.mixed-along_y.ensures.small (2 ^ 44) (rw c.of-first.ensures.y n.first.second) (rw c.of-second.ensures.y n.second.second) (rw c.of-third.ensures.y n.third.second)

pub slope-z-requires-clause-along : goal.slope-z-requires-clause-along
slope-z-requires-clause-along c =
    let n = c.requires.placed.n in
    c.mixed-along_z.ensures.small (2 ^ 44) (rw c.of-first.ensures.z n.first.third) (rw c.of-second.ensures.z n.second.third) (rw c.of-third.ensures.z n.third.third)

pub returns-clause-x : goal.returns-clause-x
returns-clause-x c =
    let x = c.args.xform.now in
    let m : c.mixed-along_x.result.value ≡ dot (along c.args.axis.now) (λ k. entry x.n k 0) = c.mixed-along_x.ensures.value ∙ rw (c.of-first.ensures.x, c.of-second.ensures.x, c.of-third.ensures.x) refl in
    c.slope-x.ensures ∙ ap (λ (n : ℤ). rnd ((c.args.rb -ℤ c.args.ra) *ℤ n) (c.args.h *ℤ pos (2 ^ (48 - c.args.spot.now.e)))) m

pub returns-clause-y : goal.returns-clause-y
returns-clause-y c =
    let x = c.args.xform.now in
    let m : c.mixed-along_y.result.value ≡ dot (along c.args.axis.now) (λ k. entry x.n k 1) = c.mixed-along_y.ensures.value ∙ rw (c.of-first.ensures.y, c.of-second.ensures.y, c.of-third.ensures.y) refl in
    c.slope-y.ensures ∙ ap (λ (n : ℤ). rnd ((c.args.rb -ℤ c.args.ra) *ℤ n) (c.args.h *ℤ pos (2 ^ (48 - c.args.spot.now.e)))) m

pub returns-clause-z : goal.returns-clause-z
returns-clause-z c =
    let x = c.args.xform.now in
    let m : c.mixed-along_z.result.value ≡ dot (along c.args.axis.now) (λ k. entry x.n k 2) = c.mixed-along_z.ensures.value ∙ rw (c.of-first.ensures.z, c.of-second.ensures.z, c.of-third.ensures.z) refl in
    c.slope-z.ensures ∙ ap (λ (n : ℤ). rnd ((c.args.rb -ℤ c.args.ra) *ℤ n) (c.args.h *ℤ pos (2 ^ (48 - c.args.spot.now.e)))) m
