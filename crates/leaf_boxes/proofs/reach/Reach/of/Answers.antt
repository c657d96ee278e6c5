use Rattle.std.proofs.Common.{arith, ap, unsigned_abs}
use Rattle.scene_model.specs.Solids.{extent_of}
use Rattle.leaf_boxes.proofs.Rooms.{room_under}
use Rattle.leaf_boxes.proofs.reach.Reach.of.Goals as goal

pub length-requires-clause-room : goal.length-requires-clause-room
length-requires-clause-room c = let e = ap extent_of c.in-Sphere.is in room_under c.args.leaf.now c.requires (unsigned_abs c.in-Sphere.r) (omega (arith, e))

pub length-requires-in-Box-clause-room : goal.length-requires-in-Box-clause-room
length-requires-in-Box-clause-room c = let e = ap extent_of c.in-Box.is in room_under c.args.leaf.now c.requires (unsigned_abs c.in-Box.size.x) (omega (arith, e))

pub length-requires-in-Box-2-clause-room : goal.length-requires-in-Box-2-clause-room
length-requires-in-Box-2-clause-room c = let e = ap extent_of c.in-Box.is in room_under c.args.leaf.now c.requires (unsigned_abs c.in-Box.size.y) (omega (arith, e))

pub length-requires-in-Box-3-clause-room : goal.length-requires-in-Box-3-clause-room
length-requires-in-Box-3-clause-room c = let e = ap extent_of c.in-Box.is in room_under c.args.leaf.now c.requires (unsigned_abs c.in-Box.size.z) (omega (arith, e))

pub length-requires-in-Cylinder-clause-room : goal.length-requires-in-Cylinder-clause-room
length-requires-in-Cylinder-clause-room c = let e = ap extent_of c.in-Cylinder.is in room_under c.args.leaf.now c.requires (unsigned_abs c.in-Cylinder.r) (omega (arith, e))

pub length-requires-in-Cylinder-2-clause-room : goal.length-requires-in-Cylinder-2-clause-room
length-requires-in-Cylinder-2-clause-room c = let e = ap extent_of c.in-Cylinder.is in room_under c.args.leaf.now c.requires (unsigned_abs c.in-Cylinder.h) (omega (arith, e))

pub widest-requires-clause-a_room : goal.widest-requires-clause-a_room
widest-requires-clause-a_room c = let e = ap extent_of c.in-Cone.is in room_under c.args.leaf.now c.requires (unsigned_abs c.in-Cone.ra) (omega (arith, e))

pub widest-requires-clause-b_room : goal.widest-requires-clause-b_room
widest-requires-clause-b_room c = let e = ap extent_of c.in-Cone.is in room_under c.args.leaf.now c.requires (unsigned_abs c.in-Cone.rb) (omega (arith, e))

pub length-requires-in-Cone-clause-room : goal.length-requires-in-Cone-clause-room
length-requires-in-Cone-clause-room c = let e = ap extent_of c.in-Cone.is in room_under c.args.leaf.now c.requires (unsigned_abs c.in-Cone.h) (omega (arith, e))
