use Rattle.std.proofs.Common.{arith, ◌≡◌, ap}
use Rattle.fix_math.specs.declared.fix.V3.{V3}
use Rattle.shapes.specs.Faces.{seen_from}
use Rattle.shapes.specs.Rays.{point_at}
use Rattle.shapes.specs.Bodies.{terms_at}
use Rattle.shapes.specs.Lines.{sight_at, value_at}
use Rattle.shapes.proofs.Told.{conic_told, near_anchor}
use Rattle.shapes.proofs.conic.Conic.stretches.Goals as goal

pub parts-requires-clause-low : goal.parts-requires-clause-low
parts-requires-clause-low c = λ t w. omega (arith, w.high, c.args.path.now.near)

pub parts-requires-clause-near : goal.parts-requires-clause-near
parts-requires-clause-near c = λ t w.
    let conic = c.args.self.now in
    let seen = c.of_path-sight.ensures t in
    let inside = c.args.path.now.inside t w.high in
    let x : value_at c.of_path-sight.result.x t ≡ _ = ap (λ (v : V3). v.x) seen in
    let y : value_at c.of_path-sight.result.y t ≡ _ = ap (λ (v : V3). v.y) seen in
    let z : value_at c.of_path-sight.result.z t ≡ _ = ap (λ (v : V3). v.z) seen in (
      omega (arith, w.high, c.args.path.now.near),
      rw x (near_anchor conic.anchor.x _ conic.near.first inside.x),
      rw y (near_anchor conic.anchor.y _ conic.near.second inside.y),
      rw z (near_anchor conic.anchor.z _ conic.near.third inside.z),
    )

pub returns : goal.returns
returns c = λ t.
    let conic = c.args.self.now in
    let u : V3 = seen_from conic.anchor (point_at c.args.path.now.ray t) in
    let seen = c.of_path-sight.ensures t in
    conic_told c.parts.result t c.args.path.now.end (terms_at conic.terms (sight_at c.of_path-sight.result t)) (terms_at conic.terms u) (ap (terms_at conic.terms) seen) (c.parts.ensures t)
