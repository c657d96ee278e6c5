-- How far a point of a solid is along the solid's axes, and the direction out of it there.
use Rattle.std.proofs.Common.{ℕ, zero, suc, ℤ, ◌-◌, ◌<◌, ◌≤◌, ◌^◌, ◌+ℤ◌, ◌-ℤ◌, ◌*ℤ◌, ◌≡◌, ◌∙◌, refl, ap, arith, unsigned_abs, true, [], ◌∷◌}
use Rattle.std.proofs.lemmas.Int.{ints}
use Rattle.fix_math.specs.declared.fix.V3.{V3}
use Rattle.fix_math.specs.Directions.{unit_wide_of}
use Rattle.shapes.specs.Faces.{in_ball, in_pipe, in_taper, ends, all_hold}
use Rattle.shapes.specs.Outward.{difference, multiple, out_of_ball, out_of_box, out_of_ends, out_of_pipe, out_of_side, unit_towards}
use Rattle.shapes.proofs.Told.{and_test, end_test, ball_test, pipe_test, taper_test, ends_test}

pub ball_inner : (r : ℤ) (l : V3) → all_hold (in_ball r l ∷ []) ≡ true → unsigned_abs r ≤ 2 ^ 62
    → (unsigned_abs l.x ≤ 2 ^ 62) × (unsigned_abs l.y ≤ 2 ^ 62) × (unsigned_abs l.z ≤ 2 ^ 62)
ball_inner r l h small =
    let k = (end_test _ _ (ball_test r l)).0 h in
    (omega (arith, k.0, small), omega (arith, k.1.0, small), omega (arith, k.1.1.0, small))

pub pipe_inner : (r h : ℤ) (l : V3) → all_hold (in_pipe r l ∷ ends h l.z) ≡ true → unsigned_abs r ≤ 2 ^ 62
    → (unsigned_abs l.x ≤ 2 ^ 62) × (unsigned_abs l.y ≤ 2 ^ 62)
pipe_inner r h l f small =
    let k = ((and_test _ _ _ _ (pipe_test r l) (ends_test h l.z)).0 f).0 in
    (omega (arith, k.0, small), omega (arith, k.1.0, small))

pub taper_inner : (widest r h : ℤ) (l : V3) → all_hold (in_taper widest r l ∷ ends h l.z) ≡ true → unsigned_abs widest ≤ 2 ^ 62
    → (unsigned_abs l.x ≤ 2 ^ 62) × (unsigned_abs l.y ≤ 2 ^ 62) × (unsigned_abs r ≤ 2 ^ 62)
taper_inner widest r h l f small =
    let k = ((and_test _ _ _ _ (taper_test widest r l) (ends_test h l.z)).0 f).0 in
    (omega (arith, k.0, small), omega (arith, k.1.0, small), omega (arith, ints, k.1.1.0, k.1.1.1.0))

-- ---- the direction by its components

pub ball_unit : (n : V3) (ox oy oz lx ly lz : ℤ) (l a b d : V3) → n ≡ unit_wide_of (ox ∷ oy ∷ oz ∷ []) → lx ≡ l.x → ly ≡ l.y → lz ≡ l.z
    → ox ≡ lx *ℤ a.x +ℤ ly *ℤ b.x +ℤ lz *ℤ d.x → oy ≡ lx *ℤ a.y +ℤ ly *ℤ b.y +ℤ lz *ℤ d.y → oz ≡ lx *ℤ a.z +ℤ ly *ℤ b.z +ℤ lz *ℤ d.z
    → n ≡ unit_towards (out_of_ball l a b d)
ball_unit n ox oy oz lx ly lz l a b d e fx fy fz ex ey ez = e ∙ rw (ex, ey, ez, fx, fy, fz) refl

pub pipe_unit : (n : V3) (ox oy oz lx ly : ℤ) (l a b z : V3) (face : ℕ) → face ≡ 0 → n ≡ unit_wide_of (ox ∷ oy ∷ oz ∷ []) → lx ≡ l.x → ly ≡ l.y
    → ox ≡ lx *ℤ a.x +ℤ ly *ℤ b.x → oy ≡ lx *ℤ a.y +ℤ ly *ℤ b.y → oz ≡ lx *ℤ a.z +ℤ ly *ℤ b.z
    → n ≡ unit_towards (out_of_side (out_of_pipe l a b) z face)
pipe_unit n ox oy oz lx ly l a b z face h e fx fy ex ey ez = e ∙ rw (h, ex, ey, ez, fx, fy) refl

pub taper_unit : (n : V3) (ox oy oz lx ly m r : ℤ) (l a b k z : V3) (face : ℕ) → face ≡ 0 → n ≡ unit_wide_of (ox ∷ oy ∷ oz ∷ []) → lx ≡ l.x → ly ≡ l.y → m ≡ r
    → ox ≡ lx *ℤ a.x +ℤ ly *ℤ b.x -ℤ m *ℤ k.x → oy ≡ lx *ℤ a.y +ℤ ly *ℤ b.y -ℤ m *ℤ k.y → oz ≡ lx *ℤ a.z +ℤ ly *ℤ b.z -ℤ m *ℤ k.z
    → n ≡ unit_towards (out_of_side (difference (out_of_pipe l a b) (multiple r k)) z face)
taper_unit n ox oy oz lx ly m r l a b k z face h e fx fy fm ex ey ez = e ∙ rw (h, ex, ey, ez, fx, fy, fm) refl

pub side_end : (side z : V3) (face : ℕ) → 0 < face → out_of_ends z (face - 1) ≡ out_of_side side z face
side_end side z zero h = absurd (omega arith)
side_end side z (suc face) h = let e : suc face - 1 ≡ face = omega arith in ap (out_of_ends z) e

pub box_end : (x y z : V3) (face : ℕ) → 4 ≤ face → out_of_ends z (face - 4) ≡ out_of_box x y z face
box_end x y z zero h = absurd (omega arith)
box_end x y z (suc zero) h = absurd (omega arith)
box_end x y z (suc (suc zero)) h = absurd (omega arith)
box_end x y z (suc (suc (suc zero))) h = absurd (omega arith)
box_end x y z (suc (suc (suc (suc face)))) h = let e : suc (suc (suc (suc face))) - 4 ≡ face = omega arith in ap (out_of_ends z) e

pub box_middle : (x y z : V3) (face : ℕ) → 2 ≤ face → face < 4 → out_of_ends y (face - 2) ≡ out_of_box x y z face
box_middle x y z zero h k = absurd (omega arith)
box_middle x y z (suc zero) h k = absurd (omega arith)
box_middle x y z (suc (suc zero)) h k = refl
box_middle x y z (suc (suc (suc zero))) h k = refl
box_middle x y z (suc (suc (suc (suc face)))) h k = absurd (omega arith)

pub box_start : (x y z : V3) (face : ℕ) → face < 2 → out_of_ends x face ≡ out_of_box x y z face
box_start x y z zero h = refl
box_start x y z (suc zero) h = refl
box_start x y z (suc (suc face)) h = absurd (omega arith)
