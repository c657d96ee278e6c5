-- A place that was found, by the extent that it was asked for.
use Rattle.std.proofs.Common.{ℕ, ℤ, pos, ◌≡◌, ◌∙◌, ap, sym, List, Result, Ok, unsigned_abs}
use Rattle.fix_math.specs.declared.fix.V3.{V3}
use Rattle.xform.specs.Placing.{spot_of}
use Rattle.xform.specs.declared.transform.Spot.{Spot}
use Rattle.xform.specs.declared.transform.Xform.{Xform}
use Rattle.xform.specs.declared.transform.XformFault.{XformFault}

pub found_place : (x : Xform) (frame : List (List ℤ)) (c : V3) (r : Result Spot XformFault) (spot : Spot) (e : ℤ) (n m : ℕ)
    → r ≡ Ok spot → r ≡ spot_of x frame c (unsigned_abs e) → e ≡ pos n → n ≡ m → spot_of x frame c m ≡ Ok spot
found_place x frame c r spot e n m f g h k =
    ap (spot_of x frame c) (sym k) ∙ ap (λ (z : ℤ). spot_of x frame c (unsigned_abs z)) (sym h) ∙ sym g ∙ f
