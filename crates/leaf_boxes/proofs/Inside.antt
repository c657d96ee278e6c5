-- A point at which a leaf's solid holds lies in the leaf's box.
use Rattle.std.proofs.Common.{◌≡◌, refl, sym, subst, arith, ℕ, zero, suc, ℤ, pos, negsuc, neg_ℤ, ◌+ℤ◌, ◌-ℤ◌, ◌*ℤ◌, ◌≤ℤ◌, ◌<ℤ◌, ◌+◌, ◌*◌, ◌<◌, ◌≤◌, ◌^◌, Bool, true, false, ◌&&◌, ◌||◌, not, List, Option, Some, None, unsigned_abs}
use Rattle.std.specs.Prelude.{int_le, nat_le, if◌then◌else◌}
use Rattle.std.specs.Int.{int_max}
use Rattle.std.proofs.lemmas.Bool.{false≢true}
use Rattle.std.proofs.lemmas.Bool.Decides.{nat_tests}
use Rattle.std.proofs.lemmas.Int.{ints, clamps}
use Rattle.std.proofs.lemmas.Nat.{pow_pos}
use lib.IntN.{*ℤ_comm}
use Rattle.fix_math.specs.declared.fix.V3.{V3}
use Rattle.fix_math.specs.Floor.{floor_least}
use Rattle.fix_math.specs.Matrices.{component, entry, row_at, along, is_matrix_within}
use Rattle.fix_math.specs.Order.{mul-le_left, mul-within, le_from_mul-le_right}
use Rattle.fix_math.specs.Ring.{mul-neg_left}
use Rattle.fix_math.specs.Vectors.{dot}
use Rattle.xform.specs.declared.transform.Spot.{Spot}
use Rattle.xform.specs.declared.transform.Xform.{Xform}
use Rattle.xform.specs.Placing.{IsSpot}
use Rattle.xform.specs.SpotLaws.{leads_back}
use Rattle.scene_model.specs.Solids.{IsLeaf, IsPrim}
use Rattle.scene_model.specs.declared.shape.Leaf.{Leaf}
use Rattle.scene_model.specs.declared.shape.Primitive.{Primitive}
use Rattle.shapes.specs.Faces.{all_hold, faces_of, faces_at, long, own, seen_from, is_near}
use Rattle.shapes.specs.Rays.{Position, IsInWorld}
use Rattle.shapes.specs.Spheres.{offset_from}
use Rattle.leaf_boxes.specs.declared.bounds.Box3.{Box3}
use Rattle.leaf_boxes.specs.declared.reach.Reach.{Reach}
use Rattle.leaf_boxes.specs.Boxes.{IsFromTo, IsInBox, coordinate, reach_of, ball_reach, block_reach, pipe_reach, corner, least, greatest, margin, floor, ceiling, cut, lower_end, upper_end, box_at, world, box_around, box_of}
use Rattle.leaf_boxes.specs.BoxLaws.{in_world}
use Rattle.leaf_boxes.specs.Holding.{differ, leaf_holds}

-- ---- what the faces say of a point's own coordinates

and_first : (p q : Bool) → (p && q) ≡ true → p ≡ true
and_first true q e = refl
and_first false q e = e

and_second : (p q : Bool) → (p && q) ≡ true → q ≡ true
and_second true q e = e
and_second false q e = absurd (false≢true e)

abbrev IsBetween : Reach → (ℕ → ℤ) → Type 0
IsBetween reach l = (k : ℕ) → k < 3 → IsFromTo (component reach.low k) (component reach.high k) (l k)

abbrev IsBetweenAny : Option Reach → (ℕ → ℤ) → Type 0
IsBetweenAny None l = Unit {0}
IsBetweenAny (Some reach) l = IsBetween reach l

three : (P : ℕ → Type 0) → P 0 → P 1 → P 2 → (k : ℕ) → k < 3 → P k
three P a b c zero lt = a
three P a b c (suc zero) lt = b
three P a b c (suc (suc zero)) lt = c
three P a b c (suc (suc (suc k))) lt = absurd (omega arith)

between : (reach : Reach) (l : ℕ → ℤ) → IsFromTo (component reach.low 0) (component reach.high 0) (l 0) → IsFromTo (component reach.low 1) (component reach.high 1) (l 1)
    → IsFromTo (component reach.low 2) (component reach.high 2) (l 2) → IsBetween reach l
between reach l a b c = three (λ k. IsFromTo (component reach.low k) (component reach.high k) (l k)) a b c

size_under : (n m : ℕ) → nat_le n m ≡ true → n ≤ m
size_under n m e = grind (arith, nat_tests)

near_between : (most z : ℤ) → pos 0 ≤ℤ most → is_near most z ≡ true → IsFromTo (neg_ℤ most) most z
near_between most z low e =
    let s = size_under (unsigned_abs z) (unsigned_abs most) e in
    record { low = omega (arith, ints); high = omega (arith, ints) }

true_le : (a b : ℤ) → int_le a b ≡ true → a ≤ℤ b
true_le a b e = omega (arith, ints)

ends_between : (length z : ℤ) → int_le (pos 0) z ≡ true → int_le z length ≡ true → IsFromTo (pos 0) length z
ends_between length z e f = record { low = true_le (pos 0) z e; high = true_le z length f }

long_low : (a : ℤ) (n : ℕ) → pos 0 ≤ℤ a → pos 0 ≤ℤ (a *ℤ pos n)
long_low (pos a) n low = omega (arith, ints)
long_low (negsuc a) n low = absurd (omega (arith, ints))

greater_low : (a b : ℤ) → pos 0 ≤ℤ a → pos 0 ≤ℤ int_max a b
greater_low a b low = omega (arith, ints, clamps)

ball_between : (r x y z : ℤ) (rest : Bool) (l : ℕ → ℤ) → l 0 ≡ x → l 1 ≡ y → l 2 ≡ z → pos 0 ≤ℤ r
    → ((is_near r x && (is_near r y && (is_near r z && rest))) && true) ≡ true → IsBetween (ball_reach r) l
ball_between r x y z rest l ex ey ez low e =
    let all = and_first (is_near r x && (is_near r y && (is_near r z && rest))) true e in
    let b = and_second (is_near r x) (is_near r y && (is_near r z && rest)) all in
    let c = and_second (is_near r y) (is_near r z && rest) b in
    let P : ℤ → Type 0 = λ v. IsFromTo (neg_ℤ r) r v in
    between (ball_reach r) l
    (subst P (sym ex) (near_between r x low (and_first (is_near r x) (is_near r y && (is_near r z && rest)) all)))
    (subst P (sym ey) (near_between r y low (and_first (is_near r y) (is_near r z && rest) b)))
    (subst P (sym ez) (near_between r z low (and_first (is_near r z) rest c)))

block_between : (a b c x y z : ℤ) (l : ℕ → ℤ) → l 0 ≡ x → l 1 ≡ y → l 2 ≡ z
    → (int_le (pos 0) x && (int_le x a && (int_le (pos 0) y && (int_le y b && (int_le (pos 0) z && (int_le z c && true)))))) ≡ true → IsBetween (block_reach a b c) l
block_between a b c x y z l ex ey ez e =
    let e2 = and_second (int_le (pos 0) x) _ e in
    let e3 = and_second (int_le x a) _ e2 in
    let e4 = and_second (int_le (pos 0) y) _ e3 in
    let e5 = and_second (int_le y b) _ e4 in
    let e6 = and_second (int_le (pos 0) z) _ e5 in
    between (block_reach a b c) l
    (subst (λ (v : ℤ). IsFromTo (pos 0) a v) (sym ex) (ends_between a x (and_first (int_le (pos 0) x) _ e) (and_first (int_le x a) _ e2)))
    (subst (λ (v : ℤ). IsFromTo (pos 0) b v) (sym ey) (ends_between b y (and_first (int_le (pos 0) y) _ e3) (and_first (int_le y b) _ e4)))
    (subst (λ (v : ℤ). IsFromTo (pos 0) c v) (sym ez) (ends_between c z (and_first (int_le (pos 0) z) _ e5) (and_first (int_le z c) true e6)))

pipe_between : (r h x y z : ℤ) (rest : Bool) (l : ℕ → ℤ) → l 0 ≡ x → l 1 ≡ y → l 2 ≡ z → pos 0 ≤ℤ r
    → ((is_near r x && (is_near r y && rest)) && (int_le (pos 0) z && (int_le z h && true))) ≡ true → IsBetween (pipe_reach r h) l
pipe_between r h x y z rest l ex ey ez low e =
    let side = and_first (is_near r x && (is_near r y && rest)) _ e in
    let caps = and_second (is_near r x && (is_near r y && rest)) _ e in
    let b = and_second (is_near r x) (is_near r y && rest) side in
    let d = and_second (int_le (pos 0) z) _ caps in
    let P : ℤ → Type 0 = λ v. IsFromTo (neg_ℤ r) r v in
    between (pipe_reach r h) l
    (subst P (sym ex) (near_between r x low (and_first (is_near r x) (is_near r y && rest) side)))
    (subst P (sym ey) (near_between r y low (and_first (is_near r y) rest b)))
    (subst (λ (v : ℤ). IsFromTo (pos 0) h v) (sym ez) (ends_between h z (and_first (int_le (pos 0) z) _ caps) (and_first (int_le z h) true d)))

-- the coordinates along the axes of a spot
abbrev along_own : Spot → V3 → ℕ → ℤ
along_own s u k = dot (entry s.n k) (along u)

faces_between : (prim : Primitive) (x : Xform) (s : Spot) (u : V3) → IsPrim prim → all_hold (faces_at prim x s u) ≡ true → IsBetweenAny (reach_of prim s) (along_own s u)
faces_between (Primitive.Sphere r) x s u h e =
    ball_between (long s r) (own s u).x (own s u).y (own s u).z _ (along_own s u) refl refl refl (long_low r (2 ^ (s.e + 16)) h.low) e
faces_between (Primitive.Box size) x s u h e =
    block_between (long s size.x) (long s size.y) (long s size.z) (own s u).x (own s u).y (own s u).z (along_own s u) refl refl refl e
faces_between (Primitive.Plane normal d) x s u h e = tt
faces_between (Primitive.Cylinder r len uncapped) x s u h e =
    pipe_between (long s r) (long s len) (own s u).x (own s u).y (own s u).z _ (along_own s u) refl refl refl (long_low r (2 ^ (s.e + 16)) h.radius.low) e
faces_between (Primitive.Cone ra rb len axis uncapped) x s u h e =
    pipe_between (long s (int_max ra rb)) (long s len) (own s u).x (own s u).y (own s u).z _ (along_own s u) refl refl refl
    (long_low (int_max ra rb) (2 ^ (s.e + 16)) (greater_low ra rb h.first.low)) e
faces_between (Primitive.Quadric c) x s u h e = tt

-- ---- sums of products with a row

negative_le : (m a b : ℤ) → m <ℤ pos 0 → a ≤ℤ b → (m *ℤ b) ≤ℤ (m *ℤ a)
negative_le (pos m) a b low le = absurd (omega (arith, ints))
negative_le (negsuc m) a b low le =
    let up = mul-le_left a b (pos (suc m)) (omega (arith, ints)) le in
    let p : negsuc m *ℤ a ≡ neg_ℤ (pos (suc m) *ℤ a) = mul-neg_left (pos (suc m)) a in
    let q : negsuc m *ℤ b ≡ neg_ℤ (pos (suc m) *ℤ b) = mul-neg_left (pos (suc m)) b in
    omega (arith, ints)

false_le : (a b : ℤ) → int_le a b ≡ false → b <ℤ a
false_le a b e = omega (arith, ints)

pick_least : (m a z b : ℤ) → a ≤ℤ z → z ≤ℤ b → (m *ℤ (if int_le (pos 0) m then a else b)) ≤ℤ (m *ℤ z)
pick_least m a z b h k = by (int_le (pos 0) m) refl
  where
    by : (t : Bool) → int_le (pos 0) m ≡ t → (m *ℤ (if t then a else b)) ≤ℤ (m *ℤ z)
    by true e = mul-le_left a z m (true_le (pos 0) m e) h
    by false e = negative_le m z b (false_le (pos 0) m e) k

pick_greatest : (m a z b : ℤ) → a ≤ℤ z → z ≤ℤ b → (m *ℤ z) ≤ℤ (m *ℤ (if int_le (pos 0) m then b else a))
pick_greatest m a z b h k = by (int_le (pos 0) m) refl
  where
    by : (t : Bool) → int_le (pos 0) m ≡ t → (m *ℤ z) ≤ℤ (m *ℤ (if t then b else a))
    by true e = mul-le_left z b m (true_le (pos 0) m e) k
    by false e = negative_le m a z (false_le (pos 0) m e) h

sums_le : (a b c x y z : ℤ) → a ≤ℤ x → b ≤ℤ y → c ≤ℤ z → (a +ℤ b +ℤ c) ≤ℤ (x +ℤ y +ℤ z)
sums_le a b c x y z h k m = omega (arith, ints)

least_under : (row : List ℤ) (reach : Reach) (l : ℕ → ℤ) → IsBetween reach l → least row reach ≤ℤ dot (component row) l
least_under row reach l h =
    let term : (k : ℕ) → k < 3 → (component row k *ℤ corner row reach.low reach.high k) ≤ℤ (component row k *ℤ l k)
    = λ k lt. let b = h k lt in pick_least (component row k) (component reach.low k) (l k) (component reach.high k) b.low b.high in
    sums_le (component row 0 *ℤ corner row reach.low reach.high 0) (component row 1 *ℤ corner row reach.low reach.high 1) (component row 2 *ℤ corner row reach.low reach.high 2)
    (component row 0 *ℤ l 0) (component row 1 *ℤ l 1) (component row 2 *ℤ l 2) (term 0 (omega arith)) (term 1 (omega arith)) (term 2 (omega arith))

greatest_over : (row : List ℤ) (reach : Reach) (l : ℕ → ℤ) → IsBetween reach l → dot (component row) l ≤ℤ greatest row reach
greatest_over row reach l h =
    let term : (k : ℕ) → k < 3 → (component row k *ℤ l k) ≤ℤ (component row k *ℤ corner row reach.high reach.low k)
    = λ k lt. let b = h k lt in pick_greatest (component row k) (component reach.low k) (l k) (component reach.high k) b.low b.high in
    sums_le (component row 0 *ℤ l 0) (component row 1 *ℤ l 1) (component row 2 *ℤ l 2)
    (component row 0 *ℤ corner row reach.high reach.low 0) (component row 1 *ℤ corner row reach.high reach.low 1) (component row 2 *ℤ corner row reach.high reach.low 2) (term 0 (omega arith)) (term 1 (omega arith)) (term 2 (omega arith))

sizes_sum : (x y z : ℤ) (a b c : ℕ) → unsigned_abs x ≤ a * 2 ^ 45 → unsigned_abs y ≤ b * 2 ^ 45 → unsigned_abs z ≤ c * 2 ^ 45 → unsigned_abs (x +ℤ y +ℤ z) ≤ (a + b + c) * 2 ^ 45
sizes_sum x y z a b c h k m = omega (arith, ints)

margin_over : (off : List ℤ) (u : ℕ → ℤ) → ((k : ℕ) → k < 3 → unsigned_abs (u k) ≤ 2 ^ 45) → unsigned_abs (dot (component off) u) ≤ margin off
margin_over off u far =
    let term : (k : ℕ) → k < 3 → unsigned_abs (component off k *ℤ u k) ≤ unsigned_abs (component off k) * 2 ^ 45
    = λ k lt. mul-within (component off k) (u k) (unsigned_abs (component off k)) (2 ^ 45) (omega arith) (far k lt) in
    sizes_sum (component off 0 *ℤ u 0) (component off 1 *ℤ u 1) (component off 2 *ℤ u 2) (unsigned_abs (component off 0)) (unsigned_abs (component off 1)) (unsigned_abs (component off 2)) (term 0 (omega arith)) (term 1 (omega arith)) (term 2 (omega arith))

-- ---- rounding, moving and cutting

some : (bits : ℕ) → pos 0 <ℤ pos (2 ^ bits)
some bits = let p = pow_pos bits in omega (arith, ints)

floor_under : (z u : ℤ) (bits : ℕ) → z ≤ℤ (pos (2 ^ bits) *ℤ u) → floor z bits ≤ℤ u
floor_under z u bits le =
    let p = some bits in
    let f = floor_least z (pos (2 ^ bits)) p in
    let t : pos (2 ^ bits) *ℤ u ≡ u *ℤ pos (2 ^ bits) = *ℤ_comm (pos (2 ^ bits)) u in
    le_from_mul-le_right (floor z bits) u (pos (2 ^ bits)) p (through (floor z bits *ℤ pos (2 ^ bits)) z (pos (2 ^ bits) *ℤ u) (u *ℤ pos (2 ^ bits)) f le t)
  where
    through : (a b c d : ℤ) → a ≤ℤ b → b ≤ℤ c → c ≡ d → a ≤ℤ d
    through a b c d h k e = omega (arith, ints)

ceiling_over : (z u : ℤ) (bits : ℕ) → (pos (2 ^ bits) *ℤ u) ≤ℤ z → u ≤ℤ ceiling z bits
ceiling_over z u bits le =
    let t : pos (2 ^ bits) *ℤ neg_ℤ u ≡ neg_ℤ u *ℤ pos (2 ^ bits) = *ℤ_comm (pos (2 ^ bits)) (neg_ℤ u) in
    let n : neg_ℤ u *ℤ pos (2 ^ bits) ≡ neg_ℤ (u *ℤ pos (2 ^ bits)) = mul-neg_left u (pos (2 ^ bits)) in
    let s : u *ℤ pos (2 ^ bits) ≡ pos (2 ^ bits) *ℤ u = *ℤ_comm u (pos (2 ^ bits)) in
    let f = floor_under (neg_ℤ z) (neg_ℤ u) bits (turned z (pos (2 ^ bits) *ℤ u) (u *ℤ pos (2 ^ bits)) (neg_ℤ u *ℤ pos (2 ^ bits)) (pos (2 ^ bits) *ℤ neg_ℤ u) le s n t) in
    back (floor (neg_ℤ z) bits) u f
  where
    turned : (z a b c d : ℤ) → a ≤ℤ z → b ≡ a → c ≡ neg_ℤ b → d ≡ c → neg_ℤ z ≤ℤ d
    turned z a b c d le e f g = omega (arith, ints)

    back : (a b : ℤ) → a ≤ℤ neg_ℤ b → b ≤ℤ neg_ℤ a
    back a b h = omega (arith, ints)

cut_under : (z p : ℤ) → unsigned_abs p ≤ 2 ^ 44 → z ≤ℤ p → cut z ≤ℤ p
cut_under z p h le = omega (arith, ints, clamps)

cut_over : (z p : ℤ) → unsigned_abs p ≤ 2 ^ 44 → p ≤ℤ z → p ≤ℤ cut z
cut_over z p h le = omega (arith, ints, clamps)

moved_under : (q u p a : ℤ) → u ≡ p -ℤ a → q ≤ℤ u → (q +ℤ a) ≤ℤ p
moved_under q u p a e le = omega (arith, ints)

moved_over : (q u p a : ℤ) → u ≡ p -ℤ a → u ≤ℤ q → p ≤ℤ (q +ℤ a)
moved_over q u p a e le = omega (arith, ints)

-- ---- one axis of the world

less_margin : (a d f w : ℤ) (m : ℕ) → d +ℤ f ≡ w → a ≤ℤ d → unsigned_abs f ≤ m → (a -ℤ pos m) ≤ℤ w
less_margin a d f w m e le small = omega (arith, ints)

more_margin : (a d f w : ℤ) (m : ℕ) → d +ℤ f ≡ w → d ≤ℤ a → unsigned_abs f ≤ m → w ≤ℤ (a +ℤ pos m)
more_margin a d f w m e le small = omega (arith, ints)

axis_between : (s : Spot) (reach : Reach) (u : ℕ → ℤ) (i : ℕ) (p : ℤ) → IsSpot s → i < 3 → IsBetween reach (λ k. dot (entry s.n k) u)
    → ((k : ℕ) → k < 3 → unsigned_abs (u k) ≤ 2 ^ 45) → unsigned_abs p ≤ 2 ^ 44 → u i ≡ p -ℤ pos 65536 *ℤ along s.anchor i
    → IsFromTo (lower_end s.e (row_at s.m i) (row_at s.residual i) (along s.anchor i) reach) (upper_end s.e (row_at s.m i) (row_at s.residual i) (along s.anchor i) reach) p
axis_between s reach u i p spot lt inside far near is =
    let row = row_at s.m i in let off = row_at s.residual i in
    let l : ℕ → ℤ = λ k. dot (entry s.n k) u in
    let back = leads_back s spot u i lt in
    let m = margin_over off u far in
    let low = less_margin (least row reach) (dot (component row) l) (dot (component off) u) (pos (2 ^ (32 + s.e)) *ℤ u i) (margin off) back (least_under row reach l inside) m in
    let high = more_margin (greatest row reach) (dot (component row) l) (dot (component off) u) (pos (2 ^ (32 + s.e)) *ℤ u i) (margin off) back (greatest_over row reach l inside) m in
    record {
      low = cut_under _ p near (moved_under _ (u i) p (pos 65536 *ℤ along s.anchor i) is (floor_under _ (u i) (32 + s.e) low));
      high = cut_over _ p near (moved_over _ (u i) p (pos 65536 *ℤ along s.anchor i) is (ceiling_over _ (u i) (32 + s.e) high));
    }

-- ---- leaves

far_seen : (p a : ℤ) → unsigned_abs p ≤ 2 ^ 44 → unsigned_abs a ≤ 2 ^ 28 → unsigned_abs (offset_from a p) ≤ 2 ^ 45
far_seen p a h k = omega (arith, ints)

in_box_at : (s : Spot) (reach : Reach) (p : Position) → IsSpot s → IsInWorld p → IsBetween reach (along_own s (seen_from s.anchor p)) → IsInBox (box_at s reach) p
in_box_at s reach p spot within inside =
    let u = seen_from s.anchor p in
    let far : (k : ℕ) → k < 3 → unsigned_abs (along u k) ≤ 2 ^ 45
    = three (λ k. unsigned_abs (along u k) ≤ 2 ^ 45) (far_seen p.x s.anchor.x within.x spot.anchor.first) (far_seen p.y s.anchor.y within.y spot.anchor.second) (far_seen p.z s.anchor.z within.z spot.anchor.third) in
    three (λ i. IsFromTo (component (box_at s reach).lo i) (component (box_at s reach).hi i) (coordinate p i))
    (axis_between s reach (along u) 0 p.x spot (omega arith) inside far within.x refl)
    (axis_between s reach (along u) 1 p.y spot (omega arith) inside far within.y refl)
    (axis_between s reach (along u) 2 p.z spot (omega arith) inside far within.z refl)

around : (s : Spot) (reach : Option Reach) (p : Position) → IsSpot s → IsInWorld p → IsBetweenAny reach (along_own s (seen_from s.anchor p)) → IsInBox (box_around s reach) p
around s None p spot within inside = in_world p within
around s (Some reach) p spot within inside = in_box_at s reach p spot within inside

plain : (holds : Bool) → differ holds false ≡ true → holds ≡ true
plain true e = refl
plain false e = e

chosen : (inverse far holds : Bool) (around : Box3) (p : Position) → IsInWorld p → differ holds inverse ≡ true → (holds ≡ true → IsInBox around p)
    → IsInBox (if inverse || far then world else around) p
chosen true far holds around p within has inside = in_world p within
chosen false true holds around p within has inside = in_world p within
chosen false false holds around p within has inside = inside (plain holds has)

pub in_box : (leaf : Leaf) → IsLeaf leaf → (p : Position) → IsInWorld p → leaf_holds leaf p ≡ true → IsInBox (box_of leaf) p
in_box leaf valid p within has =
    chosen leaf.inverse (not (is_matrix_within (2 ^ 78) leaf.spot.residual)) (all_hold (faces_of leaf p)) (box_around leaf.spot (reach_of leaf.prim leaf.spot)) p within has
    (λ e. around leaf.spot (reach_of leaf.prim leaf.spot) p valid.spot within (faces_between leaf.prim leaf.xform leaf.spot (seen_from leaf.spot.anchor p) valid.prim e))
