-- A place by the steps of the code.
use Rattle.std.specs.Prelude.{◌≡◌, ℕ, ℤ, List, Result, Ok}
use Rattle.std.proofs.Common.{ap, ◌∙◌}
use Rattle.fix_math.specs.declared.fix.V3.{V3}
use Rattle.xform.specs.declared.transform.Spot.{Spot}
use Rattle.xform.specs.declared.transform.Xform.{Xform}
use Rattle.xform.specs.declared.transform.XformFault.{XformFault}
use Rattle.fix_math.specs.Matrices.{component, vector, row_of}
use Rattle.xform.specs.Placing.{exponent_of, in_world, with_anchor, spot_at, spot_of}
use Rattle.xform.specs.Transforms.{point_of}

pub spot-is : (x : Xform) (frame : List (List ℤ)) (c anchor : V3) (p : List ℤ) (e w extent : ℕ) (r : Spot) → p ≡ row_of (point_of x c) → Ok anchor ≡ in_world (vector (component p)) → e ≡ exponent_of w → w ≡ extent → r ≡ spot_at x frame anchor e → Ok r ≡ spot_of x frame c extent
spot-is x frame c anchor p e w extent r p_is anchor_is e_is w_is r_is =
    let place : Ok anchor ≡ in_world (vector (point_of x c)) = anchor_is ∙ ap (λ (q : List ℤ). in_world (vector (component q))) p_is in
    let at_e : r ≡ spot_at x frame anchor (exponent_of extent) = r_is ∙ ap (spot_at x frame anchor) (e_is ∙ ap exponent_of w_is) in
    ap (λ (s : Spot). Ok s) at_e ∙ ap (λ (t : Result V3 XformFault). with_anchor t (λ a. spot_at x frame a (exponent_of extent))) place
