use Rattle.std.proofs.Common.{arith, ap, sym, subst, ℤ}
use Rattle.fix_math.specs.declared.fix.V3.{V3}
use Rattle.shapes.specs.Upright.{IsBetween}
use Rattle.shapes.proofs.upright.Upright.span.Goals as goal

pub returns : goal.returns
returns c = λ t.
    let sides = c.args.self.now in
    let s = c.of_path-sight.ensures t in
    let x = ap (λ (v : V3). v.x) s in
    let y = ap (λ (v : V3). v.y) s in
    let z = ap (λ (v : V3). v.z) s in
    let a = c.inside-along_x.ensures t in
    let b = c.inside-along_y.ensures t in
    let d = c.inside.ensures t in (
      λ w. let k = d.0 w in let m = b.0 k.0 in let n = a.0 m.0 in (
        n.0.high,
        record {
          x = subst (λ (v : ℤ). IsBetween sides.x.length v) x n.1;
          y = subst (λ (v : ℤ). IsBetween sides.y.length v) y m.1;
          z = subst (λ (v : ℤ). IsBetween sides.z.length v) z k.1;
        },
      ),
      λ h. let i = h.1 in
          d.1 (
            b.1 (
              a.1 (record { low = omega arith; high = h.0 }, subst (λ (v : ℤ). IsBetween sides.x.length v) (sym x) i.x),
              subst (λ (v : ℤ). IsBetween sides.y.length v) (sym y) i.y,
            ),
            subst (λ (v : ℤ). IsBetween sides.z.length v) (sym z) i.z,
          ),
    )
