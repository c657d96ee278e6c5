-- That the parts of a frame's state file lie apart.
use Rattle.std.proofs.Common.{ℕ, ◌+◌, ◌-◌, ◌*◌, ◌/◌, ◌%◌, ◌^◌, ◌<◌, ◌≤◌, ◌≡◌, List, min, refl, ◌∙◌, inl, inr, ap, arith}
use Rattle.std.proofs.Math.Nat.{mul-le-mul_left, mod-lt, div-add-mod, mul_comm}
use Rattle.std.proofs.lemmas.Bool.{cases_lt}
use Rattle.std.proofs.lemmas.Nat.{same_from_place}
use Rattle.state_file.specs.declared.frame.Frame.{Frame}
use Rattle.state_file.specs.declared.geometry.Geometry.{Geometry}
use Rattle.state_file.specs.Frames.{layout}
use Rattle.state_file.specs.Layout.{IsLaidOut}
use Rattle.state_file.specs.Shape.{layout_of, IsInLimits, pixel_bytes, picture_row, picture_bytes, columns, bands, blocks, block_width, block_height, block_row, block_bytes, bytes_before, spot_of}
use Rattle.state_file.proofs.Products.{band, column, block_end, rows_end, beside, positive, in_row, in_width, in_picture, one_column}

columns_some : (g : Geometry) → IsInLimits g → 0 < columns g
columns_some g h = let p : 0 < g.width = h.wide in omega arith

bands_some : (g : Geometry) → IsInLimits g → 0 < bands g
bands_some g h = let p : 0 < g.height = h.high in omega arith

pub row_of : (g : Geometry) → IsInLimits g → (b : ℕ) → b < blocks g → 32 * (b / columns g) < g.height
row_of g h b lt = band b (columns g) (bands g) g.height (columns_some g h) lt refl

pub column_of : (g : Geometry) → IsInLimits g → (b : ℕ) → b < blocks g → 32 * (b % columns g) < g.width
column_of g h b lt = column b (columns g) g.width (columns_some g h) refl

pub wide_within : (g : Geometry) → IsInLimits g → (b : ℕ) → b < blocks g → 32 * (b % columns g) + block_width g b ≤ g.width
wide_within g h b lt = omega (arith, column_of g h b lt)

pub high_within : (g : Geometry) → IsInLimits g → (b : ℕ) → b < blocks g → 32 * (b / columns g) + block_height g b ≤ g.height
high_within g h b lt = omega (arith, row_of g h b lt)

-- a block ends where its row of blocks ends, or before
ends : (g : Geometry) → IsInLimits g → (b : ℕ) → b < blocks g
    → bytes_before g b + block_bytes g b ≤ picture_row g * (32 * (b / columns g) + block_height g b)
ends g h b lt = block_end (pixel_bytes g) g.width (32 * (b / columns g)) (32 * (b % columns g)) (block_width g b) (block_height g b) (wide_within g h b lt)

-- blocks follow one another in the order of their numbers
follow : (g : Geometry) → IsInLimits g → (b d : ℕ) → b < blocks g → d < blocks g → b < d
    → bytes_before g b + block_bytes g b ≤ bytes_before g d
follow g h b d hb hd lt =
    let c = columns g in
    let eb : c * (b / c) + b % c ≡ b = div-add-mod b c in
    let ed : c * (d / c) + d % c ≡ d = div-add-mod d c in
    let mb : b % c < c = mod-lt b (columns_some g h) in
    let md : d % c < c = mod-lt d (columns_some g h) in
    elim (cases_lt (b / c) (d / c)) [
      | inl x ↦
          let e = ends g h b hb in
          let r : 32 * (b / c) + block_height g b ≤ 32 * (d / c) = omega arith in
          let m = rows_end (picture_row g) (32 * (b / c) + block_height g b) (32 * (d / c)) r in
          omega (arith, e, m)
      | inr x ↦
          let y : d / c ≡ b / c = elim (cases_lt (d / c) (b / c)) [
            | inl z ↦
                let w : c * (d / c + 1) ≤ c * (b / c) = mul-le-mul_left c (omega arith) in
                absurd (omega arith)
            | inr z ↦ omega arith
          ] in
          let same : block_height g d ≡ block_height g b = ap (λ q. min 32 (g.height - 32 * q)) y in
          let row : c * (d / c) ≡ c * (b / c) = ap (λ q. c * q) y in
          let less : b % c < d % c = omega arith in
          let step : 32 * (b % c) + block_width g b ≤ 32 * (d % c) = omega arith in
          let m = beside (pixel_bytes g) (block_height g b) (32 * (b % c)) (block_width g b) (32 * (d % c)) step in
          let first : picture_row g * (32 * (d / c)) ≡ picture_row g * (32 * (b / c)) = ap (λ q. picture_row g * (32 * q)) y in
          let left : pixel_bytes g * (32 * (d % c)) * block_height g d ≡ pixel_bytes g * (32 * (d % c)) * block_height g b =
          ap (λ q. pixel_bytes g * (32 * (d % c)) * q) same in
          omega (arith, m, first, left)
    ]

pub row_some : (g : Geometry) → IsInLimits g → (b : ℕ) → b < blocks g → 0 < block_row g b
row_some g h b hb =
    let x : 32 * (b % columns g) < g.width = column_of g h b hb in
    let least : 8 ≤ g.bits = h.least in
    positive (pixel_bytes g) (block_width g b) (omega arith) (omega arith)

-- the row and the column of a byte in the picture
down : (g : Geometry) → IsInLimits g → (b k : ℕ) → b < blocks g → k < block_bytes g b → 32 * (b / columns g) + k / block_row g b < g.height
down g h b k hb hk =
    let r : k / block_row g b < block_height g b = in_row k (block_row g b) (block_height g b) (row_some g h b hb) hk in
    omega (arith, r, high_within g h b hb)

across : (g : Geometry) → IsInLimits g → (b k : ℕ) → b < blocks g
    → pixel_bytes g * (32 * (b % columns g)) + k % block_row g b < picture_row g
across g h b k hb = in_width (pixel_bytes g) g.width (32 * (b % columns g)) (block_width g b) (k % block_row g b) (wide_within g h b hb)
    (mod-lt k (row_some g h b hb))

narrow : (g : Geometry) → IsInLimits g → (b k : ℕ) → b < blocks g → k % block_row g b < pixel_bytes g * 32
narrow g h b k hb =
    let m : k % block_row g b < block_row g b = mod-lt k (row_some g h b hb) in
    let w : pixel_bytes g * block_width g b ≤ pixel_bytes g * 32 = mul-le-mul_left (pixel_bytes g) (omega arith) in
    omega arith

-- a place of the picture belongs to one block
one_block : (g : Geometry) → IsInLimits g → (b d j k : ℕ) → b < blocks g → d < blocks g → j < block_bytes g b → k < block_bytes g d
    → spot_of g b j ≡ spot_of g d k → b ≡ d
one_block g h b d j k hb hd hj hk e =
    let c = columns g in
    let yb : ℕ = 32 * (b / c) + j / block_row g b in
    let yd : ℕ = 32 * (d / c) + k / block_row g d in
    let xb : ℕ = pixel_bytes g * (32 * (b % c)) + j % block_row g b in
    let xd : ℕ = pixel_bytes g * (32 * (d % c)) + k % block_row g d in
    let e' : yb * picture_row g + xb ≡ yd * picture_row g + xd =
    ap (λ q. q + xb) (mul_comm yb (picture_row g)) ∙ e ∙ ap (λ q. q + xd) (mul_comm (picture_row g) yd) in
    let same = same_from_place yb xb yd xd (picture_row g) (across g h b j hb) (across g h d k hd) e' in
    let rb : j / block_row g b < block_height g b = in_row j (block_row g b) (block_height g b) (row_some g h b hb) hj in
    let rd : k / block_row g d < block_height g d = in_row k (block_row g d) (block_height g d) (row_some g h d hd) hk in
    let rows : b / c ≡ d / c = omega (arith, same.0, rb, rd) in
    let cols : b % c ≡ d % c = one_column (pixel_bytes g) (b % c) (d % c) (j % block_row g b) (k % block_row g d)
    (narrow g h b j hb) (narrow g h d k hd) same.1 in
    let eb : c * (b / c) + b % c ≡ b = div-add-mod b c in
    let ed : c * (d / c) + d % c ≡ d = div-add-mod d c in
    let m : c * (b / c) ≡ c * (d / c) = ap (λ q. c * q) rows in
    omega (arith, m, cols, eb, ed)

pub shape_laid_out : (g : Geometry) (key : List ℕ) → IsInLimits g → IsLaidOut (layout_of g key)
unfolding layout_of
shape_laid_out g key h = record {
  head = omega arith;
  wide = omega arith;
  some = positive (columns g) (bands g) (columns_some g h) (bands_some g h);
  gates = omega arith;
  behind = λ b hb. omega arith;
  inside = λ b hb. omega (arith, ends g h b hb, rows_end (picture_row g) (32 * (b / columns g) + block_height g b) g.height (high_within g h b hb));
  apart = λ b d hb hd ne. elim (cases_lt b d) [
    | inl x ↦ inl (omega (arith, follow g h b d hb hd x))
    | inr x ↦ inr (omega (arith, follow g h d b hd hb (omega arith)))
  ];
  within = λ b k hb hk. in_picture (picture_row g) (32 * (b / columns g) + k / block_row g b) g.height (pixel_bytes g * (32 * (b % columns g)) + k % block_row g b) (down g h b k hb hk) (across g h b k hb);
  alone = λ b d j k hb hd hj hk ne e. ne (one_block g h b d j k hb hd hj hk e);
}

pub laid_out : (frame : Frame) → IsLaidOut (layout frame)
laid_out frame = shape_laid_out frame.geometry frame.key.items frame.limits

pub picture_small : (g : Geometry) → IsInLimits g → picture_bytes g ≤ 6 * 2 ^ 24
picture_small g h =
    let s : g.width * g.height ≤ 2 ^ 24 = h.small in
    let m : g.bits ≤ 16 = h.most in
    let p : pixel_bytes g ≤ 6 = omega arith in
    let a : pixel_bytes g * (g.width * g.height) ≤ pixel_bytes g * 2 ^ 24 = mul-le-mul_left (pixel_bytes g) s in
    omega arith

pub before_small : (g : Geometry) → IsInLimits g → (b : ℕ) → b < blocks g → bytes_before g b ≤ 6 * 2 ^ 24
before_small g h b hb =
    omega (arith, picture_small g h, ends g h b hb, rows_end (picture_row g) (32 * (b / columns g) + block_height g b) g.height (high_within g h b hb))

-- a block begins within the picture
pub start_within : (g : Geometry) → IsInLimits g → (b : ℕ) → b < blocks g
    → picture_row g * (32 * (b / columns g)) + pixel_bytes g * (32 * (b % columns g)) < picture_bytes g
start_within g h b hb =
    let left : pixel_bytes g * (32 * (b % columns g)) + 0 < picture_row g =
    in_width (pixel_bytes g) g.width (32 * (b % columns g)) (block_width g b) 0 (wide_within g h b hb) (row_some g h b hb) in
    in_picture (picture_row g) (32 * (b / columns g)) g.height (pixel_bytes g * (32 * (b % columns g))) (row_of g h b hb) (omega arith)

pub block_end_wide : (g : Geometry) → IsInLimits g → (b : ℕ) → b < blocks g
    → pixel_bytes g * (32 * (b % columns g)) + block_row g b ≤ picture_row g
block_end_wide g h b hb =
    let w : pixel_bytes g * (32 * (b % columns g) + block_width g b) ≤ pixel_bytes g * g.width =
    mul-le-mul_left (pixel_bytes g) (wide_within g h b hb) in
    omega arith

-- there are at most 2^24 blocks
pub blocks_small : (g : Geometry) → IsInLimits g → blocks g ≤ 2 ^ 24
blocks_small g h =
    let w : columns g ≤ g.width = omega (arith, h.wide) in
    let v : bands g ≤ g.height = omega (arith, h.high) in
    let a : columns g * bands g ≤ columns g * g.height = mul-le-mul_left (columns g) v in
    let b : g.height * columns g ≤ g.height * g.width = mul-le-mul_left g.height w in
    let s : g.width * g.height ≤ 2 ^ 24 = h.small in
    omega arith

pub count_small : (frame : Frame) → (layout frame).count ≤ 2 ^ 24
unfolding layout_of
count_small frame = blocks_small frame.geometry frame.limits

-- a state file has fewer than 2^32 bytes
pub all_small : (frame : Frame) → (layout frame).all < 2 ^ 32
unfolding layout_of
all_small frame = omega (arith, blocks_small frame.geometry frame.limits, picture_small frame.geometry frame.limits, frame.short)
