-- What follows of a place: it is a spot, its scaling leaves room for the extent, and its rows lead back to a point.
use Rattle.std.specs.Prelude.{◌≡◌, ℕ, zero, suc, ℤ, Bool, true, false, nat_le, ◌&&◌, if◌then◌else◌, pos, ◌+ℤ◌, ◌-ℤ◌, ◌*ℤ◌, ◌+◌, ◌-◌, ◌*◌, ◌^◌, ◌≤◌, ◌<◌, List, Result, Ok, Err, IfOk, unsigned_abs, nat_lt, refl}
use Rattle.std.proofs.Common.{arith, ap, subst, sym, ◌∙◌, ⊎_elim}
use Rattle.std.proofs.Math.Nat.{mul-le-mul_right}
use Rattle.std.proofs.Math.Pow.{pow_mono}
use Rattle.std.proofs.lemmas.Bool.{cases_lt, false≢true}
use Rattle.std.proofs.lemmas.Bool.Decides.{nat_tests}
use Rattle.std.proofs.lemmas.Int.{ints}
use Rattle.std.proofs.lemmas.Nat.{pow-add, pow_pos}
use Rattle.fix_math.specs.declared.fix.V3.{V3}
use Rattle.fix_math.specs.Floor.{rnd_within}
use Rattle.fix_math.specs.Least.{least_first, least_passes}
use Rattle.fix_math.specs.DirectionLaws.{unit_within}
use Rattle.fix_math.specs.MatrixLaws.{IsRowWithin-weaker, dot_within, matrix_within, entry-matrix}
use Rattle.fix_math.specs.Matrices.{entry, along, row_at, row_of, vector, is_vector_within, IsMatrixWithin, IsVectorWithin}
use Rattle.fix_math.specs.Numbers.{shortened}
use Rattle.fix_math.specs.Ring.{diff-parts, diff-same, ring_rules}
use Rattle.fix_math.specs.Vectors.{dot, cross_of}
use Rattle.fix_math.specs.Directions.{unit_of}
use Rattle.xform.specs.declared.transform.Spot.{Spot}
use Rattle.xform.specs.declared.transform.Xform.{Xform}
use Rattle.xform.specs.declared.transform.XformFault.{XformFault}
use Rattle.xform.specs.declared.transform.XformFault.TheVariants.{AnchorRange}
use Rattle.xform.specs.Placing.{to_object, to_world, residual_of, spot_at, spot_of, exponent_of, digits_of, axis_frame_of, least_axis, with_anchor, IsSpot}
use Rattle.xform.specs.ProductLaws.{times_within, times_turned_within}
use Rattle.xform.specs.Products.{times, times_turned}
use Rattle.xform.specs.Transforms.{identity, point_of, IsPlaced}

-- the third row of an axis' frame is the axis at length 1 unit
pub third_row : (v : V3) → row_at (axis_frame_of v) 2 ≡ row_of (along (unit_of v))
unfolding axis_frame_of
third_row v = refl

-- ---- sizes

-- a sum of three products of entries with those of a frame, without at least 16 bits
shortened_small : (z : ℤ) (bits : ℕ) → 16 ≤ bits → unsigned_abs z ≤ 3 * (65537 * 2 ^ 44) → unsigned_abs (shortened z bits) ≤ 2 ^ 46
shortened_small z bits many le =
    rnd_within z (2 ^ bits) (2 ^ 46) (pow_pos bits) (omega (arith, pow_mono {i = 16} {j = bits} many))

pub object_within : (x : Xform) (frame : List (List ℤ)) (e : ℕ) → IsPlaced x → IsMatrixWithin 65537 frame → e ≤ 32 → IsMatrixWithin (2 ^ 46) (to_object x frame e)
object_within x frame e placed small most =
    matrix_within (λ i j. shortened (times frame x.n i j) (48 - e)) (2 ^ 46) (λ i j i_in j_in. shortened_small (times frame x.n i j) (48 - e) (omega arith) (times_within frame x.n 65537 (2 ^ 44) i j small placed.n i_in j_in))

pub world_within : (x : Xform) (frame : List (List ℤ)) → IsPlaced x → IsMatrixWithin 65537 frame → IsMatrixWithin (2 ^ 46) (to_world x frame)
world_within x frame placed small =
    matrix_within (λ i j. shortened (times_turned x.m frame i j) 16) (2 ^ 46) (λ i j i_in j_in. shortened_small (times_turned x.m frame i j) 16 (omega arith) (omega (arith, times_turned_within x.m frame (2 ^ 44) 65537 i j placed.m small i_in j_in)))

-- ---- a placing's answer is a spot

restored : (t u : ℤ) → t +ℤ (u -ℤ t) ≡ u
restored t u = omega (arith, ints)

residual_equation : (e : ℕ) (m n : List (List ℤ)) (i j : ℕ) → i < 3 → j < 3 → times m n i j +ℤ entry (residual_of e m n) i j ≡ entry (identity (pos (2 ^ (32 + e)))) i j
residual_equation e m n i j i_in j_in =
    rw (entry-matrix (λ i j. entry (identity (pos (2 ^ (32 + e)))) i j -ℤ times m n i j) i j i_in j_in)
    (restored (times m n i j) (entry (identity (pos (2 ^ (32 + e)))) i j))

pub spot_at_is_spot : (x : Xform) (frame : List (List ℤ)) (anchor : V3) (e : ℕ) → IsPlaced x → IsMatrixWithin 65537 frame → IsVectorWithin (2 ^ 28) anchor → 14 ≤ e → e ≤ 32 → IsSpot (spot_at x frame anchor e)
spot_at_is_spot x frame anchor e placed small near least most = record {
  least = least;
  most = most;
  anchor = near;
  n = object_within x frame e placed small most;
  m = world_within x frame placed small;
  equation = residual_equation e (to_world x frame) (to_object x frame e);
}

-- ---- the scaling of an extent

pub digits_enough : (w g : ℕ) → w < 2 ^ g → nat_lt w (2 ^ g) ≡ true
digits_enough w g lt = grind (arith, nat_tests)

under : (w g : ℕ) → nat_lt w (2 ^ g) ≡ true → w < 2 ^ g
under w g e = grind (arith, nat_tests)

pub digits_few : (w : ℕ) → w ≤ 2 ^ 30 → digits_of w ≤ 31
digits_few w small =
    ⊎_elim
    (λ lt. absurd (false≢true (sym (least_first (λ g. nat_lt w (2 ^ g)) 64 31 lt) ∙ digits_enough w 31 (omega arith))))
    (λ le. le)
    (cases_lt 31 (digits_of w))

-- an extent has no more digits than it has
digits_above : (w : ℕ) → w ≤ 2 ^ 30 → w < 2 ^ digits_of w
digits_above w small = under w (digits_of w) (least_passes (λ g. nat_lt w (2 ^ g)) 64 (omega (arith, digits_few w small)))

room_for : (w d e : ℕ) → w < 2 ^ d → d ≤ 45 → e ≤ 45 - d → w * 2 ^ e < 2 ^ 45
room_for w d e lt few le =
    let more : w + 1 ≤ 2 ^ d = omega arith in
    omega (arith, mul-le-mul_right (2 ^ e) more, pow_pos e, pow-add 2 d e, pow_mono {i = d + e} {j = 45} (omega arith))

-- the extent with so many further bits is below 2 ^ 45
pub extent_room : (w : ℕ) → w ≤ 2 ^ 30 → w * 2 ^ exponent_of w < 2 ^ 45
extent_room w small = room_for w (digits_of w) (exponent_of w) (digits_above w small) (omega (arith, digits_few w small)) (omega arith)

pub exponent_least : (w : ℕ) → w ≤ 2 ^ 30 → 14 ≤ exponent_of w
exponent_least w small = omega (arith, digits_few w small)

-- the frame of an axis has small entries
pub axis_frame_within : (v : V3) → IsMatrixWithin 65537 (axis_frame_of v)
unfolding axis_frame_of
axis_frame_within v =
    let a = unit_of v in
    let first = unit_of (cross_of (least_axis a) a) in record {
      first = IsRowWithin-weaker (row_of (along first)) 65536 65537 (omega arith) (unit_within (cross_of (least_axis a) a));
      second = IsRowWithin-weaker (row_of (along (unit_of (cross_of a first)))) 65536 65537 (omega arith) (unit_within (cross_of a first));
      third = IsRowWithin-weaker (row_of (along a)) 65536 65537 (omega arith) (unit_within v);
    }

-- ---- what a placing answers where its middle lies in the world

pub record IsPlacingOf (w : ℕ) (s : Spot) : Type 0 where
  pub spot : IsSpot s
  pub e : s.e ≡ exponent_of w
  pub room : w * 2 ^ s.e < 2 ^ 45

small_part : (most : ℕ) (z : ℤ) → nat_le (unsigned_abs z) most ≡ true → unsigned_abs z ≤ most
small_part most z e = grind (arith, nat_tests)

and_first : (p q : Bool) → (p && q) ≡ true → p ≡ true
and_first true q e = refl
and_first false q e = e

and_second : (p q : Bool) → (p && q) ≡ true → q ≡ true
and_second true q e = e
and_second false q e = absurd (false≢true e)

vector_is_within : (most : ℕ) (v : V3) → is_vector_within most v ≡ true → IsVectorWithin most v
vector_is_within most v e = record {
  first = small_part most v.x (and_first _ _ e);
  second = small_part most v.y (and_first _ _ (and_second (nat_le (unsigned_abs v.x) most) _ e));
  third = small_part most v.z (and_second (nat_le (unsigned_abs v.y) most) _ (and_second (nat_le (unsigned_abs v.x) most) _ e));
}

made_at : (x : Xform) (frame : List (List ℤ)) (p : V3) (w : ℕ) → IsPlaced x → IsMatrixWithin 65537 frame → IsVectorWithin (2 ^ 28) p → w ≤ 2 ^ 30 → IsPlacingOf w (spot_at x frame p (exponent_of w))
made_at x frame p w placed small near few = record {
  spot = spot_at_is_spot x frame p (exponent_of w) placed small near (exponent_least w few) (omega arith);
  e = refl;
  room = extent_room w few;
}

made_by : (x : Xform) (frame : List (List ℤ)) (p : V3) (w : ℕ) (b : Bool) → IsPlaced x → IsMatrixWithin 65537 frame → w ≤ 2 ^ 30 → is_vector_within (2 ^ 28) p ≡ b
    → IfOk (with_anchor (if b then Ok p else Err AnchorRange) (λ anchor. spot_at x frame anchor (exponent_of w))) (IsPlacingOf w)
made_by x frame p w true placed small few within = made_at x frame p w placed small (vector_is_within (2 ^ 28) p within) few
made_by x frame p w false placed small few within = tt

pub placing_of : (x : Xform) (frame : List (List ℤ)) (c : V3) (w : ℕ) (s : Spot) → IsPlaced x → IsMatrixWithin 65537 frame → w ≤ 2 ^ 30 → spot_of x frame c w ≡ Ok s → IsPlacingOf w s
placing_of x frame c w s placed small few is =
    let P : Result Spot XformFault → Type 0 = λ r. IfOk r (IsPlacingOf w) in
    subst P is (made_by x frame (vector (point_of x c)) w (is_vector_within (2 ^ 28) (vector (point_of x c))) placed small few refl)

-- ---- the rows of a spot lead back: U is a point, n U its place along the object's axes

-- one product of a row with the sums of three rows, by the columns
regrouped : (p a b c x y z : ℤ) → p *ℤ (a *ℤ x +ℤ b *ℤ y +ℤ c *ℤ z) ≡ (p *ℤ a) *ℤ x +ℤ (p *ℤ b) *ℤ y +ℤ (p *ℤ c) *ℤ z
regrouped p a b c x y z =
    rw (diff-parts p, diff-parts a, diff-parts b, diff-parts c, diff-parts x, diff-parts y, diff-parts z) (simp ring_rules (diff-same _ _ _ _ (omega arith)))

-- a column's four entries times one component
column : (a b c r x : ℤ) → (a +ℤ b +ℤ c +ℤ r) *ℤ x ≡ a *ℤ x +ℤ b *ℤ x +ℤ c *ℤ x +ℤ r *ℤ x
column a b c r x = rw (diff-parts a, diff-parts b, diff-parts c, diff-parts r, diff-parts x) (simp ring_rules (diff-same _ _ _ _ (omega arith)))

regrouped_sum : (s : Spot) (i : ℕ) (u : ℕ → ℤ)
    → dot (entry s.m i) (λ k. dot (entry s.n k) u) +ℤ dot (entry s.residual i) u
    ≡ (times s.m s.n i 0 +ℤ entry s.residual i 0) *ℤ u 0 +ℤ (times s.m s.n i 1 +ℤ entry s.residual i 1) *ℤ u 1 +ℤ (times s.m s.n i 2 +ℤ entry s.residual i 2) *ℤ u 2
regrouped_sum s i u = sums
    (entry s.m i 0 *ℤ (entry s.n 0 0 *ℤ u 0 +ℤ entry s.n 0 1 *ℤ u 1 +ℤ entry s.n 0 2 *ℤ u 2))
    (entry s.m i 1 *ℤ (entry s.n 1 0 *ℤ u 0 +ℤ entry s.n 1 1 *ℤ u 1 +ℤ entry s.n 1 2 *ℤ u 2))
    (entry s.m i 2 *ℤ (entry s.n 2 0 *ℤ u 0 +ℤ entry s.n 2 1 *ℤ u 1 +ℤ entry s.n 2 2 *ℤ u 2))
    ((entry s.m i 0 *ℤ entry s.n 0 0) *ℤ u 0) ((entry s.m i 0 *ℤ entry s.n 0 1) *ℤ u 1) ((entry s.m i 0 *ℤ entry s.n 0 2) *ℤ u 2)
    ((entry s.m i 1 *ℤ entry s.n 1 0) *ℤ u 0) ((entry s.m i 1 *ℤ entry s.n 1 1) *ℤ u 1) ((entry s.m i 1 *ℤ entry s.n 1 2) *ℤ u 2)
    ((entry s.m i 2 *ℤ entry s.n 2 0) *ℤ u 0) ((entry s.m i 2 *ℤ entry s.n 2 1) *ℤ u 1) ((entry s.m i 2 *ℤ entry s.n 2 2) *ℤ u 2)
    (entry s.residual i 0 *ℤ u 0) (entry s.residual i 1 *ℤ u 1) (entry s.residual i 2 *ℤ u 2)
    ((times s.m s.n i 0 +ℤ entry s.residual i 0) *ℤ u 0) ((times s.m s.n i 1 +ℤ entry s.residual i 1) *ℤ u 1) ((times s.m s.n i 2 +ℤ entry s.residual i 2) *ℤ u 2)
    (regrouped (entry s.m i 0) (entry s.n 0 0) (entry s.n 0 1) (entry s.n 0 2) (u 0) (u 1) (u 2))
    (regrouped (entry s.m i 1) (entry s.n 1 0) (entry s.n 1 1) (entry s.n 1 2) (u 0) (u 1) (u 2))
    (regrouped (entry s.m i 2) (entry s.n 2 0) (entry s.n 2 1) (entry s.n 2 2) (u 0) (u 1) (u 2))
    (column (entry s.m i 0 *ℤ entry s.n 0 0) (entry s.m i 1 *ℤ entry s.n 1 0) (entry s.m i 2 *ℤ entry s.n 2 0) (entry s.residual i 0) (u 0))
    (column (entry s.m i 0 *ℤ entry s.n 0 1) (entry s.m i 1 *ℤ entry s.n 1 1) (entry s.m i 2 *ℤ entry s.n 2 1) (entry s.residual i 1) (u 1))
    (column (entry s.m i 0 *ℤ entry s.n 0 2) (entry s.m i 1 *ℤ entry s.n 1 2) (entry s.m i 2 *ℤ entry s.n 2 2) (entry s.residual i 2) (u 2))
  where
    -- the sums alone, over any numbers
    sums : (a b c a0 a1 a2 b0 b1 b2 c0 c1 c2 r0 r1 r2 x y z : ℤ) → a ≡ a0 +ℤ a1 +ℤ a2 → b ≡ b0 +ℤ b1 +ℤ b2 → c ≡ c0 +ℤ c1 +ℤ c2
        → x ≡ a0 +ℤ b0 +ℤ c0 +ℤ r0 → y ≡ a1 +ℤ b1 +ℤ c1 +ℤ r1 → z ≡ a2 +ℤ b2 +ℤ c2 +ℤ r2 → a +ℤ b +ℤ c +ℤ (r0 +ℤ r1 +ℤ r2) ≡ x +ℤ y +ℤ z
    sums a b c a0 a1 a2 b0 b1 b2 c0 c1 c2 r0 r1 r2 x y z ea eb ec ex ey ez = omega (arith, ints)

whole_entry : (w : ℤ) (i : ℕ) → i < 3 → (u : ℕ → ℤ) → entry (identity w) i 0 *ℤ u 0 +ℤ entry (identity w) i 1 *ℤ u 1 +ℤ entry (identity w) i 2 *ℤ u 2 ≡ w *ℤ u i
whole_entry w zero lt u = omega (arith, ints)
whole_entry w (suc zero) lt u = omega (arith, ints)
whole_entry w (suc (suc zero)) lt u = omega (arith, ints)
whole_entry w (suc (suc (suc i))) lt u = absurd (omega arith)

-- m times the place, and the residual times U, is U with 32 + e fraction bits more, exactly
pub leads_back : (s : Spot) → IsSpot s → (u : ℕ → ℤ) (i : ℕ) → i < 3
    → dot (entry s.m i) (λ k. dot (entry s.n k) u) +ℤ dot (entry s.residual i) u ≡ pos (2 ^ (32 + s.e)) *ℤ u i
leads_back s spot u i lt =
    regrouped_sum s i u
    ∙ ap (λ (t : ℤ). t *ℤ u 0 +ℤ (times s.m s.n i 1 +ℤ entry s.residual i 1) *ℤ u 1 +ℤ (times s.m s.n i 2 +ℤ entry s.residual i 2) *ℤ u 2) (spot.equation i 0 lt (omega arith))
    ∙ ap (λ (t : ℤ). entry (identity (pos (2 ^ (32 + s.e)))) i 0 *ℤ u 0 +ℤ t *ℤ u 1 +ℤ (times s.m s.n i 2 +ℤ entry s.residual i 2) *ℤ u 2) (spot.equation i 1 lt (omega arith))
    ∙ ap (λ (t : ℤ). entry (identity (pos (2 ^ (32 + s.e)))) i 0 *ℤ u 0 +ℤ entry (identity (pos (2 ^ (32 + s.e)))) i 1 *ℤ u 1 +ℤ t *ℤ u 2) (spot.equation i 2 lt (omega arith))
    ∙ whole_entry (pos (2 ^ (32 + s.e))) i lt u

-- so what m makes of the place differs from U by no more than the residual makes of U
pub nearly_back : (s : Spot) → IsSpot s → (u : ℕ → ℤ) (i : ℕ) → i < 3 → (far left : ℕ)
    → ((k : ℕ) → k < 3 → unsigned_abs (u k) ≤ far) → ((k : ℕ) → k < 3 → unsigned_abs (entry s.residual i k) ≤ left)
    → unsigned_abs (pos (2 ^ (32 + s.e)) *ℤ u i -ℤ dot (entry s.m i) (λ k. dot (entry s.n k) u)) ≤ 3 * (left * far)
nearly_back s spot u i lt far left u_far small =
    apart (dot (entry s.m i) (λ k. dot (entry s.n k) u)) (dot (entry s.residual i) u) (pos (2 ^ (32 + s.e)) *ℤ u i) (3 * (left * far))
    (leads_back s spot u i lt) (dot_within (entry s.residual i) u left far small u_far)
  where
    apart : (a b c : ℤ) (most : ℕ) → a +ℤ b ≡ c → unsigned_abs b ≤ most → unsigned_abs (c -ℤ a) ≤ most
    apart a b c most e le = omega (arith, ints)
