-- Rows, columns and blocks of a picture, over plain numbers.
use Rattle.std.proofs.Common.{ℕ, ◌+◌, ◌*◌, ◌/◌, ◌%◌, ◌<◌, ◌≤◌, ◌≡◌, subst, arith}
use Rattle.std.proofs.Math.Nat.{mul-le-mul_left, div-lt_iff_lt-mul, mod-lt, mul_comm}
use Rattle.std.proofs.lemmas.Nat.{same_from_place}

-- a block lies in its row of blocks and in its column
pub band : (b c n h : ℕ) → 0 < c → b < c * n → n ≡ (h + 31) / 32 → 32 * (b / c) < h
band b c n h some lt e =
    let q : b < n * c = subst (λ x. b < x) (mul_comm c n) lt in
    let r : b / c < n = (div-lt_iff_lt-mul {x = b} {y = n} some).1 q in
    omega arith

pub column : (b c w : ℕ) → 0 < c → c ≡ (w + 31) / 32 → 32 * (b % c) < w
column b c w some e =
    let r : b % c < c = mod-lt b some in
    omega arith

-- the sum of a block's bytes and those before it, in whole rows
pub block_end : (p w r x bw bh : ℕ) → x + bw ≤ w → p * w * r + p * x * bh + p * bw * bh ≤ p * w * (r + bh)
block_end p w r x bw bh h =
    let a : p * bh * (x + bw) ≤ p * bh * w = mul-le-mul_left (p * bh) h in
    omega arith

pub rows_end : (a r h : ℕ) → r ≤ h → a * r ≤ a * h
rows_end a r h e = mul-le-mul_left a e

-- of two blocks in one row of blocks
pub beside : (p bh x bw y : ℕ) → x + bw ≤ y → p * x * bh + p * bw * bh ≤ p * y * bh
beside p bh x bw y h =
    let a : p * bh * (x + bw) ≤ p * bh * y = mul-le-mul_left (p * bh) h in
    omega arith

pub positive : (a b : ℕ) → 0 < a → 0 < b → 0 < a * b
positive a b p q =
    let q' : 1 ≤ b = omega arith in
    let m : a * 1 ≤ a * b = mul-le-mul_left a q' in
    omega arith

-- a byte of a block lies in one of its rows
pub in_row : (k row n : ℕ) → 0 < row → k < row * n → k / row < n
in_row k row n some lt =
    let q : k < n * row = subst (λ x. k < x) (mul_comm row n) lt in
    (div-lt_iff_lt-mul {x = k} {y = n} some).1 q

pub in_width : (p w x bw m : ℕ) → x + bw ≤ w → m < p * bw → p * x + m < p * w
in_width p w x bw m h lt =
    let a : p * (x + bw) ≤ p * w = mul-le-mul_left p h in
    omega arith

pub in_picture : (a y h x : ℕ) → y < h → x < a → a * y + x < a * h
in_picture a y h x p q =
    let p' : y + 1 ≤ h = omega arith in
    let m : a * (y + 1) ≤ a * h = mul-le-mul_left a p' in
    omega arith

-- places of bytes tell their columns of blocks
pub one_column : (p c d m n : ℕ) → m < p * 32 → n < p * 32 → p * (32 * c) + m ≡ p * (32 * d) + n → c ≡ d
one_column p c d m n hm hn e = (same_from_place c m d n (p * 32) hm hn (omega arith)).0
