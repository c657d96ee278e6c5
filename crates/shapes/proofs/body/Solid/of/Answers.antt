use Rattle.std.proofs.Common.{arith, ap, subst, unsigned_abs}
use Rattle.scene_model.specs.Solids.{IsPrim, extent_of}
use Rattle.shapes.proofs.Rooms.{room_under, direction_within, axis_within}
use Rattle.shapes.proofs.body.Solid.of.Goals as goal

pub globe-requires-clause-room : goal.globe-requires-clause-room
globe-requires-clause-room c = let e = ap extent_of c.in-Sphere.is in room_under c.args.leaf.now c.requires (unsigned_abs c.in-Sphere.r) (omega (arith, e))

pub cuboid-requires-clause-x_room : goal.cuboid-requires-clause-x_room
cuboid-requires-clause-x_room c = let e = ap extent_of c.in-Box.is in room_under c.args.leaf.now c.requires (unsigned_abs c.in-Box.size.x) (omega (arith, e))

pub cuboid-requires-clause-y_room : goal.cuboid-requires-clause-y_room
cuboid-requires-clause-y_room c = let e = ap extent_of c.in-Box.is in room_under c.args.leaf.now c.requires (unsigned_abs c.in-Box.size.y) (omega (arith, e))

pub cuboid-requires-clause-z_room : goal.cuboid-requires-clause-z_room
cuboid-requires-clause-z_room c = let e = ap extent_of c.in-Box.is in room_under c.args.leaf.now c.requires (unsigned_abs c.in-Box.size.z) (omega (arith, e))

pub half_space-requires-clause-room : goal.half_space-requires-clause-room
half_space-requires-clause-room c = let e = ap extent_of c.in-Plane.is in room_under c.args.leaf.now c.requires (unsigned_abs c.in-Plane.d) (omega (arith, e))

pub tube-requires-clause-r_room : goal.tube-requires-clause-r_room
tube-requires-clause-r_room c = let e = ap extent_of c.in-Cylinder.is in room_under c.args.leaf.now c.requires (unsigned_abs c.in-Cylinder.r) (omega (arith, e))

pub tube-requires-clause-h_room : goal.tube-requires-clause-h_room
tube-requires-clause-h_room c = let e = ap extent_of c.in-Cylinder.is in room_under c.args.leaf.now c.requires (unsigned_abs c.in-Cylinder.h) (omega (arith, e))

pub taper-requires-clause-ra_room : goal.taper-requires-clause-ra_room
taper-requires-clause-ra_room c = let e = ap extent_of c.in-Cone.is in room_under c.args.leaf.now c.requires (unsigned_abs c.in-Cone.ra) (omega (arith, e))

pub taper-requires-clause-rb_room : goal.taper-requires-clause-rb_room
taper-requires-clause-rb_room c = let e = ap extent_of c.in-Cone.is in room_under c.args.leaf.now c.requires (unsigned_abs c.in-Cone.rb) (omega (arith, e))

pub taper-requires-clause-h_room : goal.taper-requires-clause-h_room
taper-requires-clause-h_room c = let e = ap extent_of c.in-Cone.is in room_under c.args.leaf.now c.requires (unsigned_abs c.in-Cone.h) (omega (arith, e))

pub half_space-requires-clause-direction : goal.half_space-requires-clause-direction
half_space-requires-clause-direction c = direction_within c.in-Plane.normal c.in-Plane.d (subst IsPrim c.in-Plane.is c.requires.prim)

pub taper-requires-clause-axis : goal.taper-requires-clause-axis
taper-requires-clause-axis c = axis_within c.args.leaf.now c.in-Cone.ra c.in-Cone.rb c.in-Cone.h c.in-Cone.axis c.in-Cone.uncapped c.requires c.in-Cone.is

pub conic-requires-clause-each : goal.conic-requires-clause-each
conic-requires-clause-each c = let k = subst IsPrim c.in-Quadric.is c.requires.prim in k.each

pub returns-in-Quadric-clause-faces : goal.returns-in-Quadric-clause-faces
returns-in-Quadric-clause-faces c = λ p. rw (c.closed-in-Quadric.ensures.body, c.in-Quadric.is) (c.conic.ensures.faces p)

pub returns-in-Quadric-clause-normals : goal.returns-in-Quadric-clause-normals
returns-in-Quadric-clause-normals c = λ p face. rw (c.closed-in-Quadric.ensures.body, c.in-Quadric.is) (c.conic.ensures.outward p)
