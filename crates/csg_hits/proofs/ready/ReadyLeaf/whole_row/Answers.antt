use Rattle.std.proofs.Common.{ℕ, ◌<◌, ◌≡◌, Bool, List, sym, ap, ◌∙◌}
use Rattle.shapes.specs.Faces.{all_hold, faces_of}
use Rattle.shapes.specs.Lines.{is_in_stretches}
use Rattle.shapes.specs.Rays.{point_at}
use Rattle.shapes.specs.Solids.{solid_faces, solid_side}
use Rattle.csg_hits.specs.Surfaces.{first_holds, solid_holds}
use Rattle.csg_hits.proofs.Rowed.{closed_row, open_row, told}
use Rattle.csg_hits.proofs.ready.ReadyLeaf.whole_row.Goals as goal
use Rattle.csg_hits.proofs.ready.ReadyLeaf.whole_row.Goals.{then-self, else-self}

pub returns : goal.returns
returns c =
    let self = c.args.self.now in
    let leaf = self.leaf.value in
    let ray = c.args.path.now.ray in
    let end = c.args.path.now.end in
    let holds : (t : ℕ) → t < end → is_in_stretches c.stretches-inside.result t ≡ solid_holds leaf (point_at ray t)
    = λ t lt. told c.stretches-inside.result (λ s. all_hold (solid_faces self.solid (point_at ray s))) end c.stretches-inside.ensures t lt ∙ ap (λ (faces : List Bool). all_hold faces) (self.faces (point_at ray t)) in
    elim c.if-self.branch [
      | then-self w ↦
          let beside : (t : ℕ) → t < end → is_in_stretches w.side.result t ≡ first_holds (faces_of leaf (point_at ray t))
          = λ t lt. told w.side.result (λ s. all_hold (solid_side self.solid (point_at ray s))) end w.side.ensures t lt ∙ self.side w.if-self.true (point_at ray t) in
          rw w.result-is (open_row leaf ray end c.stretches-inside.result w.side.result self.inverse holds self.is_inverse (sym self.is_uncapped ∙ w.if-self.true) beside)
      | else-self w ↦ rw w.result-is (closed_row leaf ray end c.stretches-inside.result self.inverse holds self.is_inverse (sym self.is_uncapped ∙ w.if-self.false))
    ]
