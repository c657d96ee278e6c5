use Rattle.std.proofs.Common.{ℕ, Some, ap, sym, ◌∙◌}
use Rattle.shapes.specs.Faces.{first_failing}
use Rattle.shapes.specs.Rays.{position_of}
use Rattle.csg_hits.proofs.Facing.{entered, entered_face, left, left_face}
use Rattle.csg_hits.proofs.ready.ReadyLeaf.face_between.Goals as goal

pub returns-in-Some-clause-face : goal.returns-in-Some-clause-face
returns-in-Some-clause-face c = λ crossed. entered_face c.args.self.now.leaf.value (position_of c.args.before.now) (position_of c.args.here.now) c.in-Some.face
    (ap first_failing (sym (c.args.self.now.faces (position_of c.args.before.now))) ∙ sym c.failing_face.ensures ∙ c.in-Some.is) crossed

pub returns-in-Some-clause-entered : goal.returns-in-Some-clause-entered
returns-in-Some-clause-entered c = λ crossed. entered c.args.self.now.leaf.value (position_of c.args.before.now) (position_of c.args.here.now) c.in-Some.face
    (ap first_failing (sym (c.args.self.now.faces (position_of c.args.before.now))) ∙ sym c.failing_face.ensures ∙ c.in-Some.is) crossed

pub returns-in-None-clause-face : goal.returns-in-None-clause-face
returns-in-None-clause-face c = λ crossed. ap (λ (v : ℕ). Some v) c.unwrap_or.ensures ∙ left_face c.args.self.now.leaf.value (position_of c.args.before.now) (position_of c.args.here.now) c.failing_face-in-None.result
    (ap first_failing (sym (c.args.self.now.faces (position_of c.args.before.now))) ∙ sym c.failing_face.ensures ∙ c.in-None.is) crossed
    (c.failing_face-in-None.ensures ∙ ap first_failing (c.args.self.now.faces (position_of c.args.here.now)))

pub returns-in-None-clause-entered : goal.returns-in-None-clause-entered
returns-in-None-clause-entered c = λ crossed. left c.args.self.now.leaf.value (position_of c.args.before.now) (position_of c.args.here.now)
    (ap first_failing (sym (c.args.self.now.faces (position_of c.args.before.now))) ∙ sym c.failing_face.ensures ∙ c.in-None.is) crossed
