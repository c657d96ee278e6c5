use Rattle.std.proofs.Common.{arith, ◌≡◌, pos, to_z}
use Rattle.std.proofs.lemmas.Int.{ints, to_z_pos}
use mir.Syntax.{w64}
use Rattle.scene_model.specs.Solids.{extent_of}
use Rattle.written_leaves.proofs.Places.{found_place}
use Rattle.written_leaves.proofs.leaves.placed.Goals as goal

pub returns-in-Ok : goal.returns-in-Ok
returns-in-Ok c =
    let a = c.args in
    let s : to_z w64 a.extent ≡ pos a.extent = to_z_pos w64 a.extent (omega (arith, c.requires.few)) in record {
      prim = c.requires.prim;
      xform = c.requires.placed;
      spot = c.in-Ok.ensures.spot;
      placing = (a.frame.now, a.c, record { axes = c.requires.frame; place = found_place a.x.now a.frame.now a.c c.spot.result c.in-Ok.spot (to_z w64 a.extent) a.extent (extent_of a.prim) c.in-Ok.is c.spot.ensures.value s c.requires.extent });
      ior = record { low = omega (arith, ints); high = omega (arith, ints) };
    }
