use Rattle.std.proofs.Common.{ℕ, ap, ◌∙◌}
use Rattle.xform.specs.Placing.{spot_of}
use Rattle.csg_rows.proofs.scenes.counted.Goals as goal

pub returns : goal.returns
returns c =
    let leaf = c.args.leaf.now in
    let p = c.requires.placing in
    record {
      prim = c.ended.ensures.prim c.requires.prim;
      xform = c.requires.xform;
      spot = c.requires.spot;
      placing = (
        p.0,
        p.1,
        record {
          axes = c.ended.ensures.frame p.0 p.2.axes;
          place = ap (λ (n : ℕ). spot_of leaf.xform p.0 p.1 n) c.ended.ensures.extent ∙ p.2.place;
        },
      );
      ior = c.requires.ior;
    }
