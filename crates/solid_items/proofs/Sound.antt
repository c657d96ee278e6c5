-- Each solid that is read is sound.
use Rattle.std.proofs.Common.{◌≡◌, ◌≤◌, ℕ, ℤ, Bool, List, sym, ap, ◌∙◌, arith}
use Rattle.std.proofs.Math.Nat.{max-le}
use Rattle.std.specs.Prelude.{unsigned_abs, max}
use Rattle.fix_math.specs.declared.fix.V3.{V3}
use Rattle.fix_math.specs.Directions.{unit_of}
use Rattle.fix_math.specs.Matrices.{along, row_of, row_at, IsMatrixWithin}
use Rattle.xform.specs.Placing.{axis_frame_of}
use Rattle.scene_model.specs.declared.shape.Primitive.{Primitive}
use Rattle.scene_model.specs.Amounts.{IsAmount, AreAmounts}
use Rattle.scene_model.specs.Solids.{IsHeight}
use Rattle.solid_items.specs.Solids.{own_axes, IsSound}

greater : (a b most : ℕ) → a ≤ most → b ≤ most → max a b ≤ most
greater a b most h k = max-le h k

module _ (frame : List (List ℤ)) (middle : V3) (at : ℕ) (small : IsMatrixWithin 65537 frame) where
  pub sphere_sound : (r : ℤ) → frame ≡ own_axes → IsAmount 268435456 r → IsSound (record { prim = Primitive.Sphere r; frame = frame; middle = middle; at = at })
  sphere_sound r axes amount = record { prim = amount; axes = axes; frame = small; extent = omega (arith, amount.high) }

  pub box_sound : (size : V3) → frame ≡ own_axes → AreAmounts 536870912 (row_of (along size)) → IsSound (record { prim = Primitive.Box size; frame = frame; middle = middle; at = at })
  box_sound size axes amounts = record {
    prim = amounts;
    axes = axes;
    frame = small;
    extent = greater _ _ 1073741824 (greater _ _ 1073741824 (omega (arith, amounts.first.high)) (omega (arith, amounts.second.high))) (omega (arith, amounts.third.high));
  }

  pub plane_sound : (v normal : V3) (d : ℤ) → frame ≡ own_axes → normal ≡ unit_of v → unsigned_abs d ≤ 268435456 → IsSound (record { prim = Primitive.Plane normal d; frame = frame; middle = middle; at = at })
  plane_sound v normal d axes is near = record { prim = record { direction = (v, is); distance = near }; axes = axes; frame = small; extent = omega (arith, near) }

  pub cylinder_sound : (v : V3) (r h : ℤ) (uncapped : Bool) → frame ≡ axis_frame_of v → IsAmount 268435456 r → IsHeight h → IsSound (record { prim = Primitive.Cylinder r h uncapped; frame = frame; middle = middle; at = at })
  cylinder_sound v r h uncapped axes radius height = record {
    prim = record { radius = radius; height = height };
    axes = (v, axes);
    frame = small;
    extent = greater _ _ 1073741824 (omega (arith, radius.high)) height.high;
  }

  pub cone_sound : (v : V3) (ra rb h : ℤ) (axis : V3) (uncapped : Bool) → frame ≡ axis_frame_of v → row_at frame 2 ≡ row_of (along (unit_of v)) → axis ≡ unit_of v → IsAmount 268435456 ra → IsAmount 268435456 rb → IsHeight h → IsSound (record { prim = Primitive.Cone ra rb h axis uncapped; frame = frame; middle = middle; at = at })
  cone_sound v ra rb h axis uncapped axes third is first second height = record {
    prim = record { first = first; second = second; height = height };
    axes = (v, axes, ap (λ (a : V3). row_of (along a)) is ∙ sym third);
    frame = small;
    extent = greater _ _ 1073741824 (greater _ _ 1073741824 (omega (arith, first.high)) (omega (arith, second.high))) height.high;
  }
