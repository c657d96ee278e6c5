use Rattle.std.proofs.Common.{◌-ℤ◌, ap, ◌∙◌}
use Rattle.shapes.proofs.Slabs.{slab_chain}
use Rattle.shapes.specs.Lines.{wide_at}
use Rattle.shapes.proofs.wide.WideLine.slab.Goals as goal

pub narrow_wide-requires-2 : goal.narrow_wide-requires-2
narrow_wide-requires-2 c = λ t w. c.requires.low t ((c.narrow_wide.ensures t).0 w).0

pub returns : goal.returns
returns c = λ t.
    let a = c.narrow_wide.ensures t in
    let b = c.narrow_wide-2.ensures t in
    let u = wide_at c.args.self.now t in
    let g = c.less-below.ensures t ∙ ap (λ n. n -ℤ c.args.bound.value) (c.turned.ensures.value t) in
    slab_chain _ _ u _ _ c.args.bound.value c.args.bound.low (c.less-above.ensures t) g (
      λ w. let k = b.0 w in let m = a.0 k.0 in (m.0, m.1, k.1),
      λ k. b.1 (a.1 (k.0, k.1), k.2),
    )
