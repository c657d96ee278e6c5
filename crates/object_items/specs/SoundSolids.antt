-- Each solid that is read is sound: its lengths are in their ranges, and its axes are those of its kind.
use Rattle.std.specs.Prelude.{◌≡◌, ◌≢◌, ◌≤◌, ◌<◌, ◌+◌, ◌*◌, ℕ, zero, suc, ℤ, pos, negsuc, neg_ℤ, ◌+ℤ◌, ◌-ℤ◌, ◌*ℤ◌, ◌≤ℤ◌, Bool, true, false, not, ◌&&◌, max, unsigned_abs, List, [], ◌∷◌, Result, Ok, Err, IfOk, refl}
use Rattle.std.specs.Ordering.{int_eq}
use Rattle.std.proofs.Common.{subst, sym, ap, arith}
use Rattle.std.proofs.Math.Nat.{max-le}
use Rattle.std.proofs.lemmas.Int.{ints}
use Rattle.std.proofs.lemmas.List.Elements.{All-nil, All-cons}
use Rattle.fix_math.specs.declared.fix.V3.{V3}
use Rattle.fix_math.specs.Matrices.{along, row_of, IsMatrixWithin, IsVectorWithin}
use Rattle.fix_math.specs.Order.{square-not_negative, mul-within}
use Rattle.fix_math.specs.RootLaws.{root_order, root_least, root_most}
use Rattle.fix_math.specs.Roots.{root}
use Rattle.fix_math.specs.Vectors.{dot_of}
use Rattle.scene_lexer.specs.declared.token.Place.{Place}
use Rattle.scene_lexer.specs.declared.token.Token.{Token}
use Rattle.scene_expr.specs.declared.value.Settings.{Settings}
use Rattle.scene_expr.specs.declared.value.Value.{Value}
use Rattle.scene_model.specs.Amounts.{IsAmount, AreAmounts}
use Rattle.scene_model.specs.Solids.{IsHeight}
use Rattle.xform.specs.SpotLaws.{axis_frame_within, third_row}
use Rattle.item_blocks.specs.declared.fault.ParseFault.{ParseFault}
use Rattle.item_blocks.specs.declared.words.SolidWord.{SolidWord}
use Rattle.item_blocks.specs.Parameters.{is_between, is_vector_between, in_range, float_in, vector_in, point_of, IsParameter}
use Rattle.item_blocks.specs.SoundLaws.{kept_then, kept_is, kept_parameter, kept_checked, kept_float, and_split, between}
use Rattle.item_blocks.specs.Tokens.{Behind}
use Rattle.solid_items.specs.declared.draft.SolidDraft.{SolidDraft}
use Rattle.solid_items.specs.Solids.{origin, own_axes, way_of, side_of, sides_of, height_of, sphere_of, box_of, plane_of, cylinder_of, cone_of, quadric_of, is_same, differing, other_of, radius_of, distance_of, drawn, opening, IsSolid, IsSound}

-- ---- parameters

within_of : (z : ℤ) → is_between (neg_ℤ (pos 268435456)) (pos 268435456) z ≡ true → unsigned_abs z ≤ 268435456
within_of z h = let k = between (neg_ℤ (pos 268435456)) (pos 268435456) z h in omega (arith, ints, k.0, k.1)

vector_within : (v : V3) → is_vector_between (neg_ℤ (pos 268435456)) (pos 268435456) v ≡ true → IsVectorWithin 268435456 v
vector_within v h =
    let k = and_split (is_between (neg_ℤ (pos 268435456)) (pos 268435456) v.x) _ h in
    let m = and_split (is_between (neg_ℤ (pos 268435456)) (pos 268435456) v.y) _ k.1 in
    record { first = within_of v.x k.0; second = within_of v.y m.0; third = within_of v.z m.1 }

kept_point : (value : Value) (place : Place) → IfOk (point_of value place) (IsVectorWithin 268435456)
kept_point value place = kept_checked (IsVectorWithin 268435456) (is_vector_between (neg_ℤ (pos 268435456)) (pos 268435456)) (vector_in value) place vector_within

kept_distance : (value : Value) (place : Place) → IfOk (distance_of value place) (λ z. unsigned_abs z ≤ 268435456)
kept_distance value place = kept_checked (λ z. unsigned_abs z ≤ 268435456) (is_between (neg_ℤ (pos 268435456)) (pos 268435456)) (float_in value) place within_of

eq_self : (z : ℤ) → int_eq z z ≡ true
eq_self z = grind (arith, ints)

all_true : (a b c : Bool) → a ≡ true → b ≡ true → c ≡ true → (a && (b && c)) ≡ true
all_true a b c x y z = rw (x, y, z) refl

same_self : (a : V3) → is_same a a ≡ true
same_self a = all_true _ _ _ (eq_self a.x) (eq_self a.y) (eq_self a.z)

not_both : (b : Bool) → not b ≡ true → b ≡ true → ⊥
not_both true n y = absurd (cc n)
not_both false n y = absurd (cc y)

differs : (a b : V3) → not (is_same a b) ≡ true → b ≢ a
differs a b h is = not_both (is_same a b) h (subst (λ (x : V3). is_same a x ≡ true) (sym is) (same_self a))

-- a point that differs from another
abbrev IsOtherThan : V3 → V3 → Type 0
IsOtherThan a b = IsVectorWithin 268435456 b × (b ≢ a)

other_in : (a b : V3) (place : Place) (differ : Bool) → (differ ≡ true → b ≢ a) → IsVectorWithin 268435456 b → IfOk (in_range differ b place) (IsOtherThan a)
other_in a b place true other within = (within, other refl)
other_in a b place false other within = tt

kept_differing : (a : V3) (place : Place) (m : Result V3 ParseFault) → IfOk m (IsVectorWithin 268435456) → IfOk (differing a place m) (IsOtherThan a)
kept_differing a place (Ok b) holds = other_in a b place (not (is_same a b)) (differs a b) holds
kept_differing a place (Err f) holds = tt

kept_other : (a : V3) (value : Value) (place : Place) → IfOk (other_of a value place) (IsOtherThan a)
kept_other a value place = kept_differing a place (point_of value place) (kept_point value place)

module _ (tokens : List Token) (set : Settings) (at : ℕ) where
  point_read : (v : Behind V3) → IsParameter V3 point_of tokens set at (Ok v) → IsVectorWithin 268435456 v.value
  point_read v read = kept_parameter (IsVectorWithin 268435456) point_of tokens set at (Ok v) kept_point read

  radius_read : (a : Behind ℤ) → IsParameter ℤ radius_of tokens set at (Ok a) → IsAmount 268435456 a.value
  radius_read a read = kept_parameter (IsAmount 268435456) radius_of tokens set at (Ok a) (kept_float 268435456) read

  distance_read : (a : Behind ℤ) → IsParameter ℤ distance_of tokens set at (Ok a) → unsigned_abs a.value ≤ 268435456
  distance_read a read = kept_parameter (λ z. unsigned_abs z ≤ 268435456) distance_of tokens set at (Ok a) kept_distance read

  other_read : (a : V3) (v : Behind V3) → IsParameter V3 (other_of a) tokens set at (Ok v) → IsOtherThan a v.value
  other_read a v read = kept_parameter (IsOtherThan a) (other_of a) tokens set at (Ok v) (kept_other a) read

-- ---- the way between two points that differ has a length, from 1 to 2^30

some_square : (z : ℤ) → (z *ℤ z) ≤ℤ pos 0 → z ≡ pos 0
some_square (pos zero) h = refl
some_square (pos (suc n)) h = absurd (omega (arith, ints, h))
some_square (negsuc n) h = absurd (omega (arith, ints, h))

joined : (x y z : ℤ) → x ≡ pos 0 → y ≡ pos 0 → z ≡ pos 0 → ◌≡◌ {A = V3} (record { x = x; y = y; z = z }) origin
joined x y z a b c = rw (a, b, c) refl

by_count : (n : ℕ) → (n ≡ 0 → ⊥) → 1 ≤ n
by_count zero none = absurd (none refl)
by_count (suc n) none = omega arith

some_sum : (a b c : ℤ) → pos 0 ≤ℤ a → pos 0 ≤ℤ b → pos 0 ≤ℤ c → (a ≤ℤ pos 0 → b ≤ℤ pos 0 → c ≤ℤ pos 0 → ⊥) → 1 ≤ unsigned_abs (a +ℤ b +ℤ c)
some_sum a b c x y z none = by_count _ (λ e. none (omega (arith, ints, x, y, z, e)) (omega (arith, ints, x, y, z, e)) (omega (arith, ints, x, y, z, e)))

dot_some : (v : V3) → v ≢ origin → 1 ≤ unsigned_abs (dot_of v v)
dot_some v some = some_sum (v.x *ℤ v.x) (v.y *ℤ v.y) (v.z *ℤ v.z) (square-not_negative v.x) (square-not_negative v.y) (square-not_negative v.z)
    (λ a b c. some (joined v.x v.y v.z (some_square v.x a) (some_square v.y b) (some_square v.z c)))

sums : (a b c : ℤ) → unsigned_abs a ≤ 288230376151711744 → unsigned_abs b ≤ 288230376151711744 → unsigned_abs c ≤ 288230376151711744 → unsigned_abs (a +ℤ b +ℤ c) ≤ 864691128455135232
sums a b c x y z = omega (arith, ints, x, y, z)

dot_most : (v : V3) → IsVectorWithin 536870912 v → unsigned_abs (dot_of v v) ≤ 864691128455135232
dot_most v h = sums (v.x *ℤ v.x) (v.y *ℤ v.y) (v.z *ℤ v.z)
    (mul-within v.x v.x 536870912 536870912 h.first h.first) (mul-within v.y v.y 536870912 536870912 h.second h.second) (mul-within v.z v.z 536870912 536870912 h.third h.third)

root_some : (n h : ℕ) → 1 ≤ n → n < (h + 1) * (h + 1) → 1 ≤ h
root_some n zero some most = absurd (omega (arith, some, most))
root_some n (suc h) some most = omega arith

root_high : (n h : ℕ) → n ≤ 864691128455135232 → h * h ≤ n → h ≤ 1073741824
root_high n h most least = omega (arith, root_order h 1073741823 (omega (arith, most, least)))

from_nothing : (a b : ℤ) → b -ℤ a ≡ pos 0 → b ≡ a
from_nothing a b h = omega (arith, ints, h)

same : (x y z a b c : ℤ) → x ≡ a → y ≡ b → z ≡ c → ◌≡◌ {A = V3} (record { x = x; y = y; z = z }) (record { x = a; y = b; z = c })
same x y z a b c e f g = rw (e, f, g) refl

way_some : (a b : V3) → b ≢ a → way_of a b ≢ origin
way_some a b other is = other (same b.x b.y b.z a.x a.y a.z
    (from_nothing a.x b.x (ap (λ (v : V3). v.x) is)) (from_nothing a.y b.y (ap (λ (v : V3). v.y) is)) (from_nothing a.z b.z (ap (λ (v : V3). v.z) is)))

gap_within : (a b : ℤ) → unsigned_abs a ≤ 268435456 → unsigned_abs b ≤ 268435456 → unsigned_abs (b -ℤ a) ≤ 536870912
gap_within a b x y = omega (arith, ints, x, y)

way_within : (a b : V3) → IsVectorWithin 268435456 a → IsVectorWithin 268435456 b → IsVectorWithin 536870912 (way_of a b)
way_within a b x y = record { first = gap_within a.x b.x x.first y.first; second = gap_within a.y b.y x.second y.second; third = gap_within a.z b.z x.third y.third }

height_sound : (a b : V3) → IsVectorWithin 268435456 a → IsOtherThan a b → IsHeight (height_of a b)
height_sound a b x y =
    let square = unsigned_abs (dot_of (way_of a b) (way_of a b)) in
    let least : 1 ≤ root square = root_some square (root square) (dot_some (way_of a b) (way_some a b y.1)) (root_most square) in
    let most : root square ≤ 1073741824 = root_high square (root square) (dot_most (way_of a b) (way_within a b x y.0)) (root_least square) in
    record { low = omega (arith, ints, least); high = omega (arith, ints, most) }

-- ---- solids

axes_within : IsMatrixWithin 65537 own_axes
axes_within = record {
  first = record { first = omega arith; second = omega arith; third = omega arith };
  second = record { first = omega arith; second = omega arith; third = omega arith };
  third = record { first = omega arith; second = omega arith; third = omega arith };
}

greater : (a b most : ℕ) → a ≤ most → b ≤ most → max a b ≤ most
greater a b most h k = max-le h k

sphere_sound : (centre : V3) (r : ℤ) (at : ℕ) → IsAmount 268435456 r → IsSound (sphere_of centre r at)
sphere_sound centre r at amount = record { prim = amount; axes = refl; frame = axes_within; extent = omega (arith, amount.high) }

side_amount : (a b : ℤ) → unsigned_abs a ≤ 268435456 → unsigned_abs b ≤ 268435456 → IsAmount 536870912 (side_of a b)
side_amount a b x y = record { low = omega (arith, ints); high = gap_within a b x y }

box_sound : (a b : V3) (at : ℕ) → IsVectorWithin 268435456 a → IsVectorWithin 268435456 b → IsSound (box_of a b at)
box_sound a b at x y =
    let amounts : AreAmounts 536870912 (row_of (along (sides_of a b))) = record { first = side_amount a.x b.x x.first y.first; second = side_amount a.y b.y x.second y.second; third = side_amount a.z b.z x.third y.third } in
    record {
      prim = amounts;
      axes = refl;
      frame = axes_within;
      extent = greater _ _ 1073741824 (greater _ _ 1073741824 (omega (arith, amounts.first.high)) (omega (arith, amounts.second.high))) (omega (arith, amounts.third.high));
    }

plane_sound : (normal : V3) (d : ℤ) (at : ℕ) → unsigned_abs d ≤ 268435456 → IsSound (plane_of normal d at)
plane_sound normal d at near = record { prim = record { direction = (normal, refl); distance = near }; axes = refl; frame = axes_within; extent = omega (arith, near) }

cylinder_sound : (a b : V3) (r : ℤ) (uncapped : Bool) (at : ℕ) → IsHeight (height_of a b) → IsAmount 268435456 r → IsSound (cylinder_of a b r uncapped at)
cylinder_sound a b r uncapped at height radius = record {
  prim = record { radius = radius; height = height };
  axes = (way_of a b, refl);
  frame = axis_frame_within (way_of a b);
  extent = greater _ _ 1073741824 (omega (arith, radius.high)) height.high;
}

cone_sound : (a b : V3) (ra rb : ℤ) (uncapped : Bool) (at : ℕ) → IsHeight (height_of a b) → IsAmount 268435456 ra → IsAmount 268435456 rb → IsSound (cone_of a ra b rb uncapped at)
cone_sound a b ra rb uncapped at height first second = record {
  prim = record { first = first; second = second; height = height };
  axes = (way_of a b, refl, sym (third_row (way_of a b)));
  frame = axis_frame_within (way_of a b);
  extent = greater _ _ 1073741824 (greater _ _ 1073741824 (omega (arith, first.high)) (omega (arith, second.high))) height.high;
}

abbrev IsSmall : ℤ → Type 0
IsSmall z = unsigned_abs z ≤ 268435456

quadric_sound : (a b c : V3) (d : ℤ) (at : ℕ) → IsVectorWithin 268435456 a → IsVectorWithin 268435456 b → IsVectorWithin 268435456 c → IsSmall d → IsSound (quadric_of a b c d at)
quadric_sound a b c d at x y z near = record {
  prim = record {
    ten = refl;
    each =
        All-cons IsSmall a.x (a.y ∷ a.z ∷ b.x ∷ b.y ∷ b.z ∷ c.x ∷ c.y ∷ c.z ∷ d ∷ []) x.first
        (All-cons IsSmall a.y (a.z ∷ b.x ∷ b.y ∷ b.z ∷ c.x ∷ c.y ∷ c.z ∷ d ∷ []) x.second
        (All-cons IsSmall a.z (b.x ∷ b.y ∷ b.z ∷ c.x ∷ c.y ∷ c.z ∷ d ∷ []) x.third
        (All-cons IsSmall b.x (b.y ∷ b.z ∷ c.x ∷ c.y ∷ c.z ∷ d ∷ []) y.first
        (All-cons IsSmall b.y (b.z ∷ c.x ∷ c.y ∷ c.z ∷ d ∷ []) y.second
        (All-cons IsSmall b.z (c.x ∷ c.y ∷ c.z ∷ d ∷ []) y.third
        (All-cons IsSmall c.x (c.y ∷ c.z ∷ d ∷ []) z.first
        (All-cons IsSmall c.y (c.z ∷ d ∷ []) z.second
        (All-cons IsSmall c.z (d ∷ []) z.third
        (All-cons IsSmall d [] near (All-nil IsSmall))))))))));
  };
  axes = refl;
  frame = axes_within;
  extent = omega arith;
}

-- ---- what is read

module _ (tokens : List Token) (set : Settings) (at : ℕ) (r : Result (Behind SolidDraft) ParseFault) where
  abbrev AreSound : SolidWord → Type 0
  AreSound word = IsSolid word tokens set at r → IfOk r (λ b. IsSound b.value)

  told : (solid : SolidDraft) (next : ℕ) → r ≡ drawn solid next → IsSound solid → IfOk r (λ b. IsSound b.value)
  told solid next is sound = kept_is (λ b. IsSound b.value) (drawn solid next) r is sound

  spheres : AreSound SolidWord.Sphere
  spheres read =
      kept_then (λ b. IsSound b.value) read (λ centre first rest.
      kept_then (λ b. IsSound b.value) rest (λ radius second is.
      told (sphere_of centre.value radius.value at) radius.next is (sphere_sound centre.value radius.value at (radius_read tokens set _ radius second))))

  boxes : AreSound SolidWord.Box
  boxes read =
      kept_then (λ b. IsSound b.value) read (λ a first rest.
      kept_then (λ b. IsSound b.value) rest (λ b second is.
      told (box_of a.value b.value at) b.next is (box_sound a.value b.value at (point_read tokens set at a first) (point_read tokens set _ b second))))

  planes : AreSound SolidWord.Plane
  planes read =
      kept_then (λ b. IsSound b.value) read (λ normal first rest.
      kept_then (λ b. IsSound b.value) rest (λ d second is.
      told (plane_of normal.value d.value at) d.next is (plane_sound normal.value d.value at (distance_read tokens set _ d second))))

  cylinders : AreSound SolidWord.Cylinder
  cylinders read =
      kept_then (λ b. IsSound b.value) read (λ a first rest.
      kept_then (λ b. IsSound b.value) rest (λ b second rest.
      kept_then (λ b. IsSound b.value) rest (λ radius third is.
      told (cylinder_of a.value b.value radius.value (opening tokens radius.next).value at) (opening tokens radius.next).next is
      (cylinder_sound a.value b.value radius.value _ at (height_sound a.value b.value (point_read tokens set at a first) (other_read tokens set _ a.value b second)) (radius_read tokens set _ radius third)))))

  cones : AreSound SolidWord.Cone
  cones read =
      kept_then (λ b. IsSound b.value) read (λ a first rest.
      kept_then (λ b. IsSound b.value) rest (λ ra second rest.
      kept_then (λ b. IsSound b.value) rest (λ b third rest.
      kept_then (λ b. IsSound b.value) rest (λ rb fourth is.
      told (cone_of a.value ra.value b.value rb.value (opening tokens rb.next).value at) (opening tokens rb.next).next is
      (cone_sound a.value b.value ra.value rb.value _ at (height_sound a.value b.value (point_read tokens set at a first) (other_read tokens set _ a.value b third)) (radius_read tokens set _ ra second) (radius_read tokens set _ rb fourth))))))

  quadrics : AreSound SolidWord.Quadric
  quadrics read =
      kept_then (λ b. IsSound b.value) read (λ a first rest.
      kept_then (λ b. IsSound b.value) rest (λ b second rest.
      kept_then (λ b. IsSound b.value) rest (λ c third rest.
      kept_then (λ b. IsSound b.value) rest (λ d fourth is.
      told (quadric_of a.value b.value c.value d.value at) d.next is
      (quadric_sound a.value b.value c.value d.value at (point_read tokens set at a first) (point_read tokens set _ b second) (point_read tokens set _ c third) (distance_read tokens set _ d fourth))))))

  -- each solid that is read is sound
  pub solid_sound : (word : SolidWord) → AreSound word
  solid_sound SolidWord.Sphere = spheres
  solid_sound SolidWord.Box = boxes
  solid_sound SolidWord.Plane = planes
  solid_sound SolidWord.Cylinder = cylinders
  solid_sound SolidWord.Cone = cones
  solid_sound SolidWord.Quadric = quadrics
