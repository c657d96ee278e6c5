-- A block's lines are its bytes in the picture.
use Rattle.std.proofs.Common.{ℕ, ◌+◌, ◌-◌, ◌*◌, ◌/◌, ◌%◌, ◌<◌, ◌≤◌, ◌≡◌, ◌≢◌, List, sym, ◌∙◌, subst, ap, arith, slice_index}
use Rattle.std.proofs.Math.Nat.{mul-le-mul_left, mod-lt, div-add-mod}
use Rattle.state_file.specs.declared.geometry.Geometry.{Geometry}
use Rattle.state_file.specs.Lines.{LaysLines}
use Rattle.state_file.specs.Shape.{layout_of, IsInLimits, pixel_bytes, picture_row, picture_bytes, columns, blocks, block_height, block_row, block_bytes, spot_of}
use Rattle.state_file.proofs.Drawing.{line_of}
use Rattle.state_file.proofs.Products.{in_row}
use Rattle.state_file.proofs.Shapes.{row_some, shape_laid_out, high_within, block_end_wide}

-- where a block begins in the picture
abbrev start_of : Geometry → ℕ → ℕ
start_of g b = picture_row g * (32 * (b / columns g)) + pixel_bytes g * (32 * (b % columns g))

in_block : (g : Geometry) (b r q : ℕ) → r < block_height g b → q < block_row g b → block_row g b * r + q < block_bytes g b
in_block g b r q hr hq =
    let lt : r + 1 ≤ block_height g b = omega arith in
    let m : block_row g b * (r + 1) ≤ block_row g b * block_height g b = mul-le-mul_left (block_row g b) lt in
    omega arith

spot_line : (g : Geometry) (b r q : ℕ) → q < block_row g b
    → spot_of g b (block_row g b * r + q) ≡ start_of g b + picture_row g * r + q
spot_line g b r q hq =
    let w = line_of (block_row g b) r q hq in
    let x = ap (λ y. picture_row g * (32 * (b / columns g) + y) + (pixel_bytes g * (32 * (b % columns g)) + (block_row g b * r + q) % block_row g b)) w.0 in
    let z = ap (λ y. picture_row g * (32 * (b / columns g) + r) + (pixel_bytes g * (32 * (b % columns g)) + y)) w.1 in
    x ∙ z ∙ (omega arith)

pub laid_here : (g : Geometry) (key : List ℕ) → IsInLimits g → (b : ℕ) → b < (layout_of g key).count → (bytes old new : List ℕ)
    → LaysLines (start_of g b) (picture_row g) (block_row g b) (block_height g b) bytes old new
    → (k : ℕ) → k < (layout_of g key).size b → slice_index bytes k ≡ slice_index new ((layout_of g key).spot b k)
unfolding layout_of
laid_here g key h b hb bytes old new s k hk =
    let row : ℕ = block_row g b in
    let some : 0 < row = row_some g h b hb in
    let hr : k / row < block_height g b = in_row k row (block_height g b) some hk in
    let hq : k % row < row = mod-lt k some in
    let whole : row * (k / row) + k % row ≡ k = div-add-mod k row in
    let e : start_of g b + picture_row g * (k / row) + k % row ≡ spot_of g b k = omega arith in
    let l : slice_index new (start_of g b + picture_row g * (k / row) + k % row) ≡ slice_index bytes (row * (k / row) + k % row) =
    s.lines (k / row) (k % row) hr hq in
    sym (ap (λ x. slice_index bytes x) whole) ∙ sym l ∙ ap (λ x. slice_index new x) e

pub laid_others : (g : Geometry) (key : List ℕ) → IsInLimits g → (b : ℕ) → b < (layout_of g key).count → (bytes old new : List ℕ)
    → LaysLines (start_of g b) (picture_row g) (block_row g b) (block_height g b) bytes old new
    → (d k : ℕ) → d < (layout_of g key).count → d ≢ b → k < (layout_of g key).size d
    → slice_index new ((layout_of g key).spot d k) ≡ slice_index old ((layout_of g key).spot d k)
unfolding layout_of
laid_others g key h b hb bytes old new s d k hd ne hk =
    s.others (spot_of g d k) (λ r q hr hq e.
    (shape_laid_out g key h).alone d b k (block_row g b * r + q) hd hb hk (in_block g b r q hr hq) ne (e ∙ sym (spot_line g b r q hq)))

pub lays_as : (g : Geometry) (b start stride line count : ℕ) (bytes pixels old new : List ℕ)
    → start ≡ start_of g b → stride ≡ picture_row g → line ≡ block_row g b → count ≡ block_height g b → bytes ≡ pixels
    → LaysLines start stride line count bytes old new
    → LaysLines (start_of g b) (picture_row g) (block_row g b) (block_height g b) pixels old new
lays_as g b start stride line count bytes pixels old new e1 e2 e3 e4 e5 s =
    let s1 = subst (λ x. LaysLines x stride line count bytes old new) e1 s in
    let s2 = subst (λ x. LaysLines (start_of g b) x line count bytes old new) e2 s1 in
    let s3 = subst (λ x. LaysLines (start_of g b) (picture_row g) x count bytes old new) e3 s2 in
    let s4 = subst (λ x. LaysLines (start_of g b) (picture_row g) (block_row g b) x bytes old new) e4 s3 in
    subst (λ x. LaysLines (start_of g b) (picture_row g) (block_row g b) (block_height g b) x old new) e5 s4

-- a block's lines end within the picture
pub ends_within : (g : Geometry) → IsInLimits g → (b : ℕ) → b < blocks g
    → start_of g b + picture_row g * block_height g b ≤ picture_bytes g + (picture_row g - block_row g b)
ends_within g h b hb =
    let high : 32 * (b / columns g) + block_height g b ≤ g.height = high_within g h b hb in
    let m : picture_row g * (32 * (b / columns g) + block_height g b) ≤ picture_row g * g.height = mul-le-mul_left (picture_row g) high in
    let wide : pixel_bytes g * (32 * (b % columns g)) + block_row g b ≤ picture_row g = block_end_wide g h b hb in
    omega arith
