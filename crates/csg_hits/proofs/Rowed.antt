-- The row of a leaf, from the stretches of its solid and of its side.
use Rattle.std.proofs.Common.{ℕ, ◌-◌, ◌<◌, ◌≡◌, Bool, true, false, ◌&&◌, ◌||◌, not, Option, Some, None, refl, ap, sym, ◌∙◌, arith}
use Rattle.std.specs.Prelude.{nat_lt}
use Rattle.std.proofs.lemmas.Bool.Decides.{nat_tests}
use Rattle.scene_model.specs.declared.shape.Leaf.{Leaf}
use Rattle.shapes.specs.declared.parts.Stretches.{Stretches}
use Rattle.shapes.specs.declared.ray.Ray.{Ray}
use Rattle.shapes.specs.Faces.{faces_of}
use Rattle.shapes.specs.Lines.{is_in_stretches}
use Rattle.shapes.specs.Rays.{Position, point_at}
use Rattle.shapes.specs.Solids.{is_uncapped}
use Rattle.csg_hits.specs.declared.row.Row.{Row}
use Rattle.csg_hits.specs.Rows.{IsRowOf, row_crossing, row_holds, side_crossed}
use Rattle.csg_hits.specs.Sides.{Crossing, differ}
use Rattle.csg_hits.specs.Surfaces.{first_holds, is_gate, leaf_crossing, leaf_holds, solid_holds}

before_end : (t end : ℕ) (b : Bool) → t < end → (nat_lt t end && b) ≡ b
before_end t end b lt =
    let e : nat_lt t end ≡ true = grind (arith, nat_tests) in ap (λ (x : Bool). x && b) e

-- stretches of a path tell of each of its numbers
pub told : (stretches : Stretches) (holds : ℕ → Bool) (end : ℕ) → ((t : ℕ) → is_in_stretches stretches t ≡ (nat_lt t end && holds t)) → (t : ℕ) → t < end → is_in_stretches stretches t ≡ holds t
told stretches holds end h t lt = h t ∙ before_end t end (holds t) lt

same_crossing : (a b : Crossing) → a.before ≡ b.before → a.now ≡ b.now → a.struck ≡ b.struck → a ≡ b
same_crossing a b e f g =
    ap (λ (v : Bool). record { before = v; now = a.now; struck = a.struck }) e
    ∙ ap (λ (v : Bool). record { before = b.before; now = v; struck = a.struck }) f
    ∙ ap (λ (v : Bool). record { before = b.before; now = b.now; struck = v }) g

holds_same : (inside solid inverse own : Bool) → inside ≡ solid → inverse ≡ own → differ inside inverse ≡ differ solid own
holds_same inside solid inverse own e f = ap (λ (b : Bool). differ b inverse) e ∙ ap (λ (b : Bool). differ solid b) f

-- a row tells of its leaf, where its stretches do, and where its side is crossed as the leaf's gate is open
row_told : (leaf : Leaf) (ray : Ray) (end : ℕ) (inside : Stretches) (side : Option Stretches) (inverse : Bool) → ((t : ℕ) → t < end → is_in_stretches inside t ≡ solid_holds leaf (point_at ray t)) → inverse ≡ leaf.inverse
    → ((t : ℕ) → t < end → side_crossed side t ≡ is_gate leaf (point_at ray (t - 1)) (point_at ray t)) → IsRowOf leaf ray end (record { inside = inside; side = side; inverse = inverse })
row_told leaf ray end inside side inverse holds turned gate = λ t lt.
    let p : Position = point_at ray (t - 1) in
    let q : Position = point_at ray t in
    let e = holds_same (is_in_stretches inside (t - 1)) (solid_holds leaf p) inverse leaf.inverse (holds (t - 1) (omega arith)) turned in
    let f = holds_same (is_in_stretches inside t) (solid_holds leaf q) inverse leaf.inverse (holds t lt) turned in
    let was : Bool = differ (is_in_stretches inside (t - 1)) inverse in
    let is : Bool = differ (is_in_stretches inside t) inverse in
    same_crossing (row_crossing (record { inside = inside; side = side; inverse = inverse }) t) (leaf_crossing leaf p q) e f
    (ap (λ (b : Bool). differ b is && side_crossed side t) e ∙ ap (λ (b : Bool). differ (leaf_holds leaf p) b && side_crossed side t) f ∙ ap (λ (b : Bool). differ (leaf_holds leaf p) (leaf_holds leaf q) && b) (gate t lt))

-- with closed ends
pub closed_row : (leaf : Leaf) (ray : Ray) (end : ℕ) (inside : Stretches) (inverse : Bool) → ((t : ℕ) → t < end → is_in_stretches inside t ≡ solid_holds leaf (point_at ray t)) → inverse ≡ leaf.inverse
    → is_uncapped leaf.prim ≡ false → IsRowOf leaf ray end (record { inside = inside; side = None; inverse = inverse })
closed_row leaf ray end inside inverse holds turned closed =
    row_told leaf ray end inside None inverse holds turned
    (λ t lt. ap (λ (b : Bool). not b || differ (first_holds (faces_of leaf (point_at ray (t - 1)))) (first_holds (faces_of leaf (point_at ray t)))) (sym closed))

-- with open ends
pub open_row : (leaf : Leaf) (ray : Ray) (end : ℕ) (inside side : Stretches) (inverse : Bool) → ((t : ℕ) → t < end → is_in_stretches inside t ≡ solid_holds leaf (point_at ray t)) → inverse ≡ leaf.inverse
    → is_uncapped leaf.prim ≡ true → ((t : ℕ) → t < end → is_in_stretches side t ≡ first_holds (faces_of leaf (point_at ray t))) → IsRowOf leaf ray end (record { inside = inside; side = Some side; inverse = inverse })
open_row leaf ray end inside side inverse holds turned uncapped beside =
    row_told leaf ray end inside (Some side) inverse holds turned
    (λ t lt.
    ap (λ (b : Bool). differ b (is_in_stretches side t)) (beside (t - 1) (omega arith))
    ∙ ap (λ (b : Bool). differ (first_holds (faces_of leaf (point_at ray (t - 1)))) b) (beside t lt)
    ∙ ap (λ (b : Bool). not b || differ (first_holds (faces_of leaf (point_at ray (t - 1)))) (first_holds (faces_of leaf (point_at ray t)))) (sym uncapped))

-- a leaf that holds nowhere on a path
pub missed_row : (leaf : Leaf) (ray : Ray) (end : ℕ) (row : Row) → ((t : ℕ) → row_holds row t ≡ false) → ((t : ℕ) → t < end → leaf_holds leaf (point_at ray t) ≡ false) → IsRowOf leaf ray end row
missed_row leaf ray end row none fails = λ t lt.
    let p : Position = point_at ray (t - 1) in
    let q : Position = point_at ray t in
    let e : leaf_holds leaf p ≡ false = fails (t - 1) (omega arith) in
    let f : leaf_holds leaf q ≡ false = fails t lt in
    let quiet : (differ (row_holds row (t - 1)) (row_holds row t) && side_crossed row.side t) ≡ false =
    ap (λ (b : Bool). differ b (row_holds row t) && side_crossed row.side t) (none (t - 1)) ∙ ap (λ (b : Bool). differ false b && side_crossed row.side t) (none t) in
    let still : (differ (leaf_holds leaf p) (leaf_holds leaf q) && is_gate leaf p q) ≡ false =
    ap (λ (b : Bool). differ b (leaf_holds leaf q) && is_gate leaf p q) e ∙ ap (λ (b : Bool). differ false b && is_gate leaf p q) f in
    same_crossing (row_crossing row t) (leaf_crossing leaf p q) (none (t - 1) ∙ sym e) (none t ∙ sym f) (quiet ∙ sym still)

-- a test that says the contrary
pub fails : (b : Bool) → ¬ (b ≡ true) → b ≡ false
fails true h = absurd (h refl)
fails false h = refl

pub turned : (b : Bool) → not b ≡ true → b ≡ false
turned true e = sym e
turned false e = refl
