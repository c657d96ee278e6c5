-- Sizes of lengths, of products with directions, and of how far a picture stands away.
use Rattle.std.proofs.Common.{◌≡◌, ◌≤◌, ◌≤ℤ◌, ◌+◌, ◌*◌, ◌^◌, ◌*ℤ◌, ℕ, ℤ, pos, negsuc, List, Option, Some, Result, unsigned_abs, subst, arith}
use Rattle.std.proofs.lemmas.Int.{ints}
use Rattle.fix_math.specs.declared.fix.V3.{V3}
use Rattle.fix_math.specs.Angles.{sine_of, cosine_of}
use Rattle.fix_math.specs.Floor.{rnd_within, rnd_not_negative, rnd_monotone, shortened_within}
use Rattle.fix_math.specs.Matrices.{component, along, row_of, IsRowWithin, IsVectorWithin}
use Rattle.fix_math.specs.MatrixLaws.{cross_within, row_dot_within, IsRowWithin-weaker}
use Rattle.fix_math.specs.Numbers.{rnd, shortened}
use Rattle.fix_math.specs.Order.{mul-within, mul-le_right}
use Rattle.fix_math.specs.RootLaws.{root_least, root_order}
use Rattle.fix_math.specs.Roots.{root}
use Rattle.fix_math.specs.Vectors.{cross, dot_of, length_of, rounded_cross_of}
use Rattle.item_blocks.specs.declared.fault.ParseFault.{ParseFault}
use Rattle.scene_model.specs.declared.camera.Camera.{Camera}
use Rattle.view_blocks.specs.declared.camera.Aim.{Aim}
use Rattle.view_blocks.specs.Views.{aimed, looking, away, IsAngle}
use Rattle.view_blocks.proofs.AngleLemmas.{sine_some, cosine_low_to_right, cosine_high_to_right}

-- a length is at most twice the greatest component
root_within : (n r : ℕ) → n ≤ 3 * (r * r) → root n ≤ 2 * r
root_within n r le = root_order (root n) (2 * r) (omega (arith, root_least n, le))

pub length_within : (v : V3) (r : ℕ) → IsVectorWithin r v → length_of v ≤ 2 * r
length_within v r h = root_within (unsigned_abs (dot_of v v)) r (row_dot_within (row_of (along v)) (row_of (along v)) r r h h)

-- a component of at most 1 unit makes no number larger
pub part_within : (z : ℤ) (size : ℕ) → unsigned_abs z ≤ 65536 → unsigned_abs (shortened (z *ℤ pos size) 16) ≤ size
part_within z size small = rnd_within (z *ℤ pos size) 65536 size (omega arith) (omega (arith, mul-within z (pos size) 65536 size small (omega arith)))

pub crossed_within : (v w : V3) → IsVectorWithin (2 ^ 28) v → IsVectorWithin 65536 w → IsRowWithin (2 ^ 46) (row_of (along (rounded_cross_of v w)))
crossed_within v w h k =
    let wide = cross_within (row_of (along v)) (row_of (along w)) (2 ^ 28) 65536 h k in
    record {
      first = shortened_within (cross (along v) (along w) 0) 16 (2 ^ 46) (omega (arith, wide.first));
      second = shortened_within (cross (along v) (along w) 1) 16 (2 ^ 46) (omega (arith, wide.second));
      third = shortened_within (cross (along v) (along w) 2) 16 (2 ^ 46) (omega (arith, wide.third));
    }

pub wide_cross_within : (u w : List ℤ) → IsRowWithin (2 ^ 28) u → IsRowWithin (2 ^ 52) w → IsRowWithin (2 ^ 82) (row_of (cross (component u) (component w)))
wide_cross_within u w h k = IsRowWithin-weaker (row_of (cross (component u) (component w))) (2 ^ 28 * 2 ^ 52 + 2 ^ 28 * 2 ^ 52) (2 ^ 82) (omega arith) (cross_within u w (2 ^ 28) (2 ^ 52) h k)

-- ---- how far the picture stands away

pub half_low : (a : ℤ) → IsAngle a → pos 1 ≤ℤ rnd a (pos 2)
half_low a is = rnd_monotone (pos 1) a (pos 2) (omega (arith, ints)) is.some

pub half_high : (a : ℤ) → IsAngle a → rnd a (pos 2) ≤ℤ pos 5898240
half_high a is = rnd_monotone a (pos 11796479) (pos 2) (omega (arith, ints)) (omega (arith, ints, is.less, is.some))

pub half_sine : (a : ℤ) → IsAngle a → pos 512 ≤ℤ sine_of (rnd a (pos 2))
half_sine a is = sine_some (rnd a (pos 2)) (half_low a is) (half_high a is)

tangent_within : (n c s : ℤ) → pos 512 ≤ℤ s → unsigned_abs (n *ℤ c) ≤ 2 ^ 61 → unsigned_abs (rnd (n *ℤ c) (pos 2 *ℤ s)) ≤ 2 ^ 51
tangent_within n c (pos s) some le = rnd_within (n *ℤ c) (2 * s) (2 ^ 51) (omega (arith, ints, some)) (omega (arith, ints, le, some))
tangent_within n c (negsuc s) some le = absurd (omega (arith, ints, some))

pub away_low : (a : ℤ) (right : V3) → IsAngle a → pos 0 ≤ℤ away a right
away_low a right is =
    let low = cosine_low_to_right (rnd a (pos 2)) (omega (arith, ints, half_low a is)) (half_high a is) in
    rnd_not_negative (pos (length_of right) *ℤ cosine_of (rnd a (pos 2))) (pos 2 *ℤ sine_of (rnd a (pos 2))) (omega (arith, ints, half_sine a is))
    (omega (arith, ints, mul-le_right (pos 0) (pos (length_of right)) (cosine_of (rnd a (pos 2))) low (omega (arith, ints))))

cosine_within : (c : ℤ) → pos 0 ≤ℤ c → c ≤ℤ pos 4294967296 → unsigned_abs c ≤ 4294967296
cosine_within c low high = omega (arith, ints, low, high)

pub away_high : (a : ℤ) (right : V3) → IsAngle a → IsVectorWithin (2 ^ 28) right → unsigned_abs (away a right) ≤ 2 ^ 51
away_high a right is short =
    let half : pos 0 ≤ℤ rnd a (pos 2) = omega (arith, ints, half_low a is) in
    let le = cosine_within (cosine_of (rnd a (pos 2))) (cosine_low_to_right (rnd a (pos 2)) half (half_high a is)) (cosine_high_to_right (rnd a (pos 2)) half (half_high a is)) in
    tangent_within (pos (length_of right)) (cosine_of (rnd a (pos 2))) (sine_of (rnd a (pos 2))) (half_sine a is)
    (omega (arith, mul-within (pos (length_of right)) (cosine_of (rnd a (pos 2))) (2 ^ 29) (2 ^ 32) (omega (arith, length_within right (2 ^ 28) short)) le))

-- ---- what is looked at

pub look_some : (sky : V3) (aim : Aim) (o : Option Aim) (view view' : Camera) (r : Result Camera ParseFault) → Some aim ≡ o → view ≡ view' → aimed sky aim view ≡ r → looking sky o view' ≡ r
look_some sky aim o view view' r is same found =
    subst (λ (x : _). looking sky x view' ≡ r) is (subst (λ (x : _). aimed sky aim x ≡ r) same found)
