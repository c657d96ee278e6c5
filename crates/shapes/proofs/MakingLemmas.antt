-- Lengths in the measure of a spot, and sums of products with entries: their sizes and values.
use Rattle.std.proofs.Common.{ℕ, ℤ, pos, negsuc, ◌+◌, ◌*◌, ◌<◌, ◌≤◌, ◌^◌, ◌+ℤ◌, ◌-ℤ◌, ◌*ℤ◌, ◌≤ℤ◌, ◌<ℤ◌, ◌≡◌, ⊎_elim, arith, unsigned_abs, refl, ◌∷◌, ◌++◌}
use Rattle.std.proofs.lemmas.Bool.{cases_lt}
use Rattle.std.proofs.Math.Pow.{pow_mono}
use Rattle.std.proofs.lemmas.Int.{ints, unsigned_abs-mul}
use Rattle.std.proofs.lemmas.Nat.{pow-add}
use Rattle.fix_math.specs.Order.{mul-within}
use Rattle.fix_math.specs.Floor.{rnd_within}
use Rattle.fix_math.specs.Numbers.{rnd}
use Rattle.std.proofs.Math.Nat.{mul-le-mul_right, le_of_mul-le-mul_right}
use Rattle.std.proofs.Common.{mul-le-mul, ap, sym, ◌∙◌, ◌-◌}
use Rattle.std.proofs.lemmas.Nat.{pow_pos}
use Rattle.fix_math.specs.declared.fix.V3.{V3}
use Rattle.xform.specs.declared.transform.Spot.{Spot}
use Rattle.shapes.specs.Bodies.{own_of}
use Rattle.shapes.specs.Faces.{seen_from, own, in_pipe, in_taper, ends}
use Rattle.shapes.specs.Rays.{Position}
use Rattle.shapes.specs.declared.axes.Axes.{Axes}
use Rattle.fix_math.specs.Ring.{diff-parts, diff-same, ring_rules}

times_more : (n p q : ℕ) → n * (p * q) ≡ (n * p) * q
times_more n p q = omega arith

pub length_small : (a : ℤ) (e : ℕ) → unsigned_abs a * 2 ^ e < 2 ^ 45 → unsigned_abs (a *ℤ pos (2 ^ (e + 16))) ≤ 2 ^ 61
length_small a e room =
    let s : unsigned_abs (a *ℤ pos (2 ^ (e + 16))) ≡ unsigned_abs a * 2 ^ (e + 16) = unsigned_abs-mul a (pos (2 ^ (e + 16))) in
    let p = pow-add 2 e 16 in
    let m : unsigned_abs a * (2 ^ e * 2 ^ 16) ≡ (unsigned_abs a * 2 ^ e) * 2 ^ 16 = times_more (unsigned_abs a) (2 ^ e) (2 ^ 16) in
    rw (s, p, m) (omega arith)

pub length_low : (a : ℤ) (n : ℕ) → pos 0 ≤ℤ a → pos 0 ≤ℤ (a *ℤ pos n)
length_low (pos a) n low = omega (arith, ints)
length_low (negsuc a) n low = absurd (omega (arith, ints))

pub limit_small : (a : ℤ) (e : ℕ) → unsigned_abs a * 2 ^ e < 2 ^ 45 → unsigned_abs (a *ℤ pos (2 ^ (e + 32))) ≤ 2 ^ 77
limit_small a e room =
    let s : unsigned_abs (a *ℤ pos (2 ^ (e + 32))) ≡ unsigned_abs a * 2 ^ (e + 32) = unsigned_abs-mul a (pos (2 ^ (e + 32))) in
    let p = pow-add 2 e 32 in
    let m : unsigned_abs a * (2 ^ e * 2 ^ 32) ≡ (unsigned_abs a * 2 ^ e) * 2 ^ 32 = times_more (unsigned_abs a) (2 ^ e) (2 ^ 32) in
    rw (s, p, m) (omega arith)

pub shares_sum : (x y z : ℤ) → unsigned_abs x ≤ 65537 * 2 ^ 46 → unsigned_abs y ≤ 65537 * 2 ^ 46 → unsigned_abs z ≤ 65537 * 2 ^ 46
    → (unsigned_abs (x +ℤ y) ≤ 2 ^ 64) × (unsigned_abs (x +ℤ y +ℤ z) ≤ 2 ^ 64)
shares_sum x y z h k m = (omega (arith, ints), omega (arith, ints))

pub columns : (p q r a b c d e f g h i x y z : ℤ)
    → (p *ℤ a +ℤ q *ℤ d +ℤ r *ℤ g) *ℤ x +ℤ (p *ℤ b +ℤ q *ℤ e +ℤ r *ℤ h) *ℤ y +ℤ (p *ℤ c +ℤ q *ℤ f +ℤ r *ℤ i) *ℤ z
    ≡ p *ℤ (a *ℤ x +ℤ b *ℤ y +ℤ c *ℤ z) +ℤ q *ℤ (d *ℤ x +ℤ e *ℤ y +ℤ f *ℤ z) +ℤ r *ℤ (g *ℤ x +ℤ h *ℤ y +ℤ i *ℤ z)
columns p q r a b c d e f g h i x y z =
    rw (diff-parts p, diff-parts q, diff-parts r, diff-parts a, diff-parts b, diff-parts c, diff-parts d, diff-parts e, diff-parts f, diff-parts g, diff-parts h, diff-parts i, diff-parts x, diff-parts y, diff-parts z) (simp ring_rules (diff-same _ _ _ _ (omega arith)))

-- a point along the axes that were made of a spot
pub seen_own : (axes : Axes) (spot : Spot) (p : Position) → axes.anchor ≡ spot.anchor → ((u : V3) → own_of axes u ≡ own spot u) → own_of axes (seen_from axes.anchor p) ≡ own spot (seen_from spot.anchor p)
seen_own axes spot p e f = ap (λ (a : V3). own_of axes (seen_from a p)) e ∙ f (seen_from spot.anchor p)

pub mixed_small : (p q r a b c : ℤ) (n : ℕ) → unsigned_abs p ≤ 65537 → unsigned_abs q ≤ 65537 → unsigned_abs r ≤ 65537
    → unsigned_abs a ≤ n → unsigned_abs b ≤ n → unsigned_abs c ≤ n → unsigned_abs (p *ℤ a +ℤ q *ℤ b +ℤ r *ℤ c) ≤ 196611 * n
mixed_small p q r a b c n hp hq hr ha hb hc =
    let x = mul-within p a 65537 n hp ha in
    let y = mul-within q b 65537 n hq hb in
    let z = mul-within r c 65537 n hr hc in
    omega (arith, ints)

-- ---- how the radius of a cone grows

pub slope_top : (ra rb m : ℤ) → unsigned_abs ra ≤ 2 ^ 28 → unsigned_abs rb ≤ 2 ^ 28 → unsigned_abs m ≤ 196611 * 2 ^ 44 → unsigned_abs ((rb -ℤ ra) *ℤ m) ≤ 2 ^ 91
slope_top ra rb m h k l =
    let d : unsigned_abs (rb -ℤ ra) ≤ 2 ^ 29 = omega (arith, ints) in
    let e : unsigned_abs ((rb -ℤ ra) *ℤ m) ≤ 2 ^ 29 * (196611 * 2 ^ 44) = mul-within (rb -ℤ ra) m (2 ^ 29) (196611 * 2 ^ 44) d l in
    omega arith

regroup : (d m p : ℕ) → (d * m) * p ≡ (d * p) * m
regroup d m p = omega arith

regroup_bottom : (h p q : ℕ) → (2 ^ 59 * (h * q)) * p ≡ 2 ^ 59 * (h * (p * q))
regroup_bottom h p q = omega arith

difference : (a b p : ℕ) → a * p < 2 ^ 45 → b * p < 2 ^ 45 → unsigned_abs (pos b -ℤ pos a) * p < 2 ^ 45
difference a b p h k =
    ⊎_elim
    (λ lt. let le : unsigned_abs (pos b -ℤ pos a) ≤ b = omega (arith, ints) in omega (arith, mul-le-mul_right p le))
    (λ ge. let le : unsigned_abs (pos b -ℤ pos a) ≤ a = omega (arith, ints) in omega (arith, mul-le-mul_right p le))
    (cases_lt a b)

sum_power : (e : ℕ) → e ≤ 48 → 2 ^ e * 2 ^ (48 - e) ≡ 2 ^ 48
sum_power e most = let s : e + (48 - e) ≡ 48 = omega arith in sym (pow-add 2 e (48 - e)) ∙ ap (λ (n : ℕ). 2 ^ n) s

positive : (h q : ℕ) → 1 ≤ h → 0 < q → 0 < h * q
positive h q a b = let m : 1 * 1 ≤ h * q = mul-le-mul a b in omega arith

pub slope_small : (ra rb m h : ℤ) (e : ℕ) → pos 0 ≤ℤ ra → pos 0 ≤ℤ rb → unsigned_abs ra * 2 ^ e < 2 ^ 45 → unsigned_abs rb * 2 ^ e < 2 ^ 45 → unsigned_abs m ≤ 196611 * 2 ^ 44 → pos 1 ≤ℤ h → e ≤ 48
    → unsigned_abs (rnd ((rb -ℤ ra) *ℤ m) (h *ℤ pos (2 ^ (48 - e)))) ≤ 2 ^ 59
slope_small (pos ra) (pos rb) m (pos h) e low low' room room' l some most =
    let d : ℕ = unsigned_abs (pos rb -ℤ pos ra) in
    let size : unsigned_abs ((pos rb -ℤ pos ra) *ℤ m) ≡ d * unsigned_abs m = unsigned_abs-mul (pos rb -ℤ pos ra) m in
    let less : d * 2 ^ e < 2 ^ 45 = difference ra rb (2 ^ e) room room' in
    let one : 1 ≤ h = omega (arith, ints) in
    let p : 2 ^ e * 2 ^ (48 - e) ≡ 2 ^ 48 = sum_power e most in
    let q = pow_pos (48 - e) in
    let r = pow_pos e in
    let less' : d * 2 ^ e ≤ 2 ^ 45 = omega arith in
    let top' : (d * 2 ^ e) * unsigned_abs m ≤ 2 ^ 45 * (196611 * 2 ^ 44) = mul-le-mul less' l in
    let top : (d * unsigned_abs m) * 2 ^ e ≤ 2 ^ 45 * (196611 * 2 ^ 44) = rw (regroup d (unsigned_abs m) (2 ^ e)) top' in
    let bottom : (2 ^ 59 * (h * 2 ^ (48 - e))) * 2 ^ e ≡ 2 ^ 59 * (h * 2 ^ 48) = regroup_bottom h (2 ^ e) (2 ^ (48 - e)) ∙ ap (λ (n : ℕ). 2 ^ 59 * (h * n)) p in
    let k : (d * unsigned_abs m) * 2 ^ e ≤ (2 ^ 59 * (h * 2 ^ (48 - e))) * 2 ^ e = rw bottom (omega (arith, top, one)) in
    let n : d * unsigned_abs m ≤ 2 ^ 59 * (h * 2 ^ (48 - e)) = le_of_mul-le-mul_right k r in
    let t : unsigned_abs ((pos rb -ℤ pos ra) *ℤ m) ≤ 2 ^ 59 * (h * 2 ^ (48 - e)) = rw size n in
    rnd_within ((pos rb -ℤ pos ra) *ℤ m) (h * 2 ^ (48 - e)) (2 ^ 59) (positive h (2 ^ (48 - e)) one q) t
slope_small (negsuc ra) rb m h e low low' room room' l some most = absurd (omega (arith, ints))
slope_small (pos ra) (negsuc rb) m h e low low' room room' l some most = absurd (omega (arith, ints))
slope_small (pos ra) (pos rb) m (negsuc h) e low low' room room' l some most = absurd (omega (arith, ints))

pub bottom_small : (h : ℤ) (k : ℕ) → unsigned_abs h ≤ 2 ^ 30 → k ≤ 48 → unsigned_abs (h *ℤ pos (2 ^ k)) ≤ 2 ^ 78
bottom_small h k small most =
    let m : unsigned_abs (h *ℤ pos (2 ^ k)) ≤ 2 ^ 30 * 2 ^ 48 = mul-within h (pos (2 ^ k)) (2 ^ 30) (2 ^ 48) small (pow_mono {i = k} {j = 48} most) in
    omega arith

pub bottom_positive : (h : ℤ) (k : ℕ) → pos 1 ≤ℤ h → pos 0 <ℤ (h *ℤ pos (2 ^ k))
bottom_positive (pos h) k some = let m = positive h (2 ^ k) (omega (arith, ints)) (pow_pos k) in omega (arith, ints)
bottom_positive (negsuc h) k some = absurd (omega (arith, ints))

-- ---- equal parts make equal faces

pub tube_same : (r r' h h' : ℤ) (v v' : V3) → v ≡ v' → r ≡ r' → h ≡ h' → (in_pipe r v ∷ ends h v.z) ≡ (in_pipe r' v' ∷ ends h' v'.z)
tube_same r r' h h' v v' e f g = rw (e, f, g) refl

pub taper_same : (w w' m m' h h' : ℤ) (v v' : V3) → v ≡ v' → w ≡ w' → m ≡ m' → h ≡ h' → (in_taper w m v ∷ ends h v.z) ≡ (in_taper w' m' v' ∷ ends h' v'.z)
taper_same w w' m m' h h' v v' e f g k = rw (e, f, g, k) refl

pub cuboid_same : (x x' y y' z z' : ℤ) (v v' : V3) → v ≡ v' → x ≡ x' → y ≡ y' → z ≡ z' → (ends x v.x ++ (ends y v.y ++ ends z v.z)) ≡ (ends x' v'.x ++ (ends y' v'.y ++ ends z' v'.z))
cuboid_same x x' y y' z z' v v' e f g h = rw (e, f, g, h) refl

pub radius_same : (a b c s a' b' c' s' : ℤ) (u u' : V3) → a ≡ a' → b ≡ b' → c ≡ c' → s ≡ s' → u ≡ u'
    → (a *ℤ u.x +ℤ b *ℤ u.y +ℤ c *ℤ u.z +ℤ s) ≡ (a' *ℤ u'.x +ℤ b' *ℤ u'.y +ℤ c' *ℤ u'.z +ℤ s')
radius_same a b c s a' b' c' s' u u' e f g h k = rw (e, f, g, h, k) refl
