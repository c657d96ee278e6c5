use Rattle.std.proofs.Common.{ℕ, ◌<◌, List}
use Rattle.state_file.specs.Layout.{IsAcknowledged, IsHonest, IsOpenBlock, IsOwn}
use Rattle.state_file.specs.Opening.{IsMade, Ran}
use Rattle.state_file.specs.Shape.{layout_of}
use Rattle.state_file.proofs.Looked.{made_honest, made_open, made_own, ran_weaker}
use Rattle.state_file.proofs.Shapes.{shape_laid_out}
use Rattle.state_file.proofs.Through.{err_of, match_map}
use Rattle.state_file.proofs.opening.«open».Goals as goal

pub returns-clause-honest : goal.returns-clause-honest
returns-clause-honest g c = λ picture h.
    let name = c.args.name.now in
    let l = layout_of c.args.g c.args.key.items in
    let ok = shape_laid_out c.args.g c.args.key.items c.requires.limits in
    let before = g.S.Shelf.images c.args.shelf (g.S.Shelf.moment c.args.shelf) name in
    match_map c.begin.result (λ pen. Ran g.S.Shelf.moment g.S.Shelf.images name (IsMade l before) c.args.shelf pen.shelf) (λ pen. Ran g.S.Shelf.moment g.S.Shelf.images name (IsHonest l picture) c.args.shelf pen.shelf)
    (λ e. Ran g.S.Shelf.moment g.S.Shelf.images name (IsMade l before) c.args.shelf e.1) (λ e. Ran g.S.Shelf.moment g.S.Shelf.images name (IsHonest l picture) c.args.shelf e.1)
    (λ pen r. ran_weaker g.S.Shelf.moment g.S.Shelf.images name (IsMade l before) (IsHonest l picture) c.args.shelf pen.shelf (made_honest l ok picture before h) r)
    (λ e r. ran_weaker g.S.Shelf.moment g.S.Shelf.images name (IsMade l before) (IsHonest l picture) c.args.shelf e.1 (made_honest l ok picture before h) r)
    c.begin.ensures.ran

pub returns-clause-own : goal.returns-clause-own
returns-clause-own g c = λ h.
    let name = c.args.name.now in
    let l = layout_of c.args.g c.args.key.items in
    let ok = shape_laid_out c.args.g c.args.key.items c.requires.limits in
    let before = g.S.Shelf.images c.args.shelf (g.S.Shelf.moment c.args.shelf) name in
    match_map c.begin.result (λ pen. Ran g.S.Shelf.moment g.S.Shelf.images name (IsMade l before) c.args.shelf pen.shelf) (λ pen. Ran g.S.Shelf.moment g.S.Shelf.images name (IsOwn l) c.args.shelf pen.shelf)
    (λ e. Ran g.S.Shelf.moment g.S.Shelf.images name (IsMade l before) c.args.shelf e.1) (λ e. Ran g.S.Shelf.moment g.S.Shelf.images name (IsOwn l) c.args.shelf e.1)
    (λ pen r. ran_weaker g.S.Shelf.moment g.S.Shelf.images name (IsMade l before) (IsOwn l) c.args.shelf pen.shelf (made_own l ok before h) r)
    (λ e r. ran_weaker g.S.Shelf.moment g.S.Shelf.images name (IsMade l before) (IsOwn l) c.args.shelf e.1 (made_own l ok before h) r)
    c.begin.ensures.ran

pub returns-clause-acknowledged : goal.returns-clause-acknowledged
returns-clause-acknowledged g c =
    let name = c.args.name.now in
    let l = layout_of c.args.g c.args.key.items in
    let ok = shape_laid_out c.args.g c.args.key.items c.requires.limits in
    let old = g.S.Shelf.holds c.args.shelf name in
    err_of c.begin.result (λ pen. (d : List ℕ) → g.S.Shelf.holds pen.shelf name d → IsMade l old d)
    (λ e. (d : List ℕ) → g.S.Shelf.holds e.1 name d → IsMade l old d)
    (λ e. (b : ℕ) → b < l.count → IsAcknowledged l b (g.S.Shelf.holds e.1 name) (g.S.Shelf.images e.1 (g.S.Shelf.moment e.1) name)
    → (d : List ℕ) × old d × IsOpenBlock l b d)
    (λ e r b hb a. made_open l ok old b hb a.seen (r a.seen a.told) (a.each a.seen (g.S.Shelf.reads_an_image e.1 name a.seen a.told)))
    c.begin.ensures.reads
