use Rattle.std.proofs.Common.{refl}
use Rattle.shapes.specs.Rays.{position_of}
use Rattle.csg_hits.specs.Ready.{surfaces_in}
use Rattle.csg_hits.proofs.Numbered.{crossed, face_there, enters_there, no_face, never_enters, read_in, past_in}
use Rattle.csg_hits.proofs.Right.{at_leaf, past_leaf}
use Rattle.csg_hits.proofs.built.Built.hit.Goals as goal

pub returns-in-Some-clause-face : goal.returns-in-Some-clause-face
returns-in-Some-clause-face c = λ shadow struck.
    let r = read_in c.args.self.now.leaves.items c.deref.result.now c.args.found.now.strike.leaf c.in-Some.leaf.now c.deref.ensures.value c.in-Some.ensures.lookup.3.0 c.in-Some.ensures.lookup.1 in
    face_there (surfaces_in c.args.self.now) c.args.path.now.ray c.args.found.now.strike.t c.args.found.now.strike.leaf c.in-Some.leaf.now.leaf.value (position_of c.point-before.result) (position_of c.point-here.result) c.face_between-face.result.0
    (at_leaf c.args.self.now.leaves.items c.args.found.now.strike.leaf c.in-Some.leaf.now r.0 r.1) c.point-before.ensures c.point-here.ensures (c.face_between-face.ensures.face (crossed (surfaces_in c.args.self.now) c.args.path.now.ray shadow c.args.found.now.strike.t c.args.found.now.object c.args.found.now.strike.leaf c.in-Some.leaf.now.leaf.value (position_of c.point-before.result) (position_of c.point-here.result)
    refl struck (at_leaf c.args.self.now.leaves.items c.args.found.now.strike.leaf c.in-Some.leaf.now r.0 r.1) c.point-before.ensures c.point-here.ensures))

pub returns-in-Some-clause-entering : goal.returns-in-Some-clause-entering
returns-in-Some-clause-entering c = λ shadow struck.
    let r = read_in c.args.self.now.leaves.items c.deref.result.now c.args.found.now.strike.leaf c.in-Some.leaf.now c.deref.ensures.value c.in-Some.ensures.lookup.3.0 c.in-Some.ensures.lookup.1 in
    enters_there (surfaces_in c.args.self.now) c.args.path.now.ray c.args.found.now.strike.t c.args.found.now.strike.leaf c.in-Some.leaf.now.leaf.value (position_of c.point-here.result) c.face_between-face.result.1 c.in-Some.leaf.now.negated _
    (at_leaf c.args.self.now.leaves.items c.args.found.now.strike.leaf c.in-Some.leaf.now r.0 r.1) c.point-here.ensures (c.face_between-face.ensures.entered (crossed (surfaces_in c.args.self.now) c.args.path.now.ray shadow c.args.found.now.strike.t c.args.found.now.object c.args.found.now.strike.leaf c.in-Some.leaf.now.leaf.value (position_of c.point-before.result) (position_of c.point-here.result)
    refl struck (at_leaf c.args.self.now.leaves.items c.args.found.now.strike.leaf c.in-Some.leaf.now r.0 r.1) c.point-before.ensures c.point-here.ensures)) c.in-Some.leaf.now.is_negated refl

pub returns-in-None-clause-face : goal.returns-in-None-clause-face
returns-in-None-clause-face c = λ shadow struck.
    no_face (surfaces_in c.args.self.now) c.args.path.now.ray c.args.found.now.strike.t c.args.found.now.strike.leaf (past_leaf c.args.self.now.leaves.items c.args.found.now.strike.leaf (past_in c.args.self.now.leaves.items c.deref.result.now c.args.found.now.strike.leaf c.deref.ensures.value c.in-None.ensures.lookup.3))

pub returns-in-None-clause-entering : goal.returns-in-None-clause-entering
returns-in-None-clause-entering c = λ shadow struck.
    never_enters (surfaces_in c.args.self.now) c.args.path.now.ray c.args.found.now.strike.t c.args.found.now.strike.leaf refl (past_leaf c.args.self.now.leaves.items c.args.found.now.strike.leaf (past_in c.args.self.now.leaves.items c.deref.result.now c.args.found.now.strike.leaf c.deref.ensures.value c.in-None.ensures.lookup.3))
