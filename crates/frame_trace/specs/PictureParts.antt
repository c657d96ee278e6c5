-- A rectangle has the bytes that the picture has there.
use Rattle.std.specs.Prelude.{◌≡◌, ℕ, zero, suc, ◌+◌, ◌*◌, ◌/◌, ◌%◌, ◌<◌, ◌≤◌, ℤ, ◌⊎◌, List, ◌++◌, length, slice_index, refl}
use Rattle.std.proofs.Common.{get_or, sym, ◌∙◌, ap, subst, inl, inr, arith, length-append, get_or-take, get_or-append-add}
use Rattle.std.proofs.lemmas.Bool.{cases_lt}
use Rattle.std.proofs.lemmas.List.{take_at}
use Rattle.std.proofs.lemmas.Nat.{div_below}
use Rattle.std.proofs.Math.Nat.{mul-le-mul_left}
use Rattle.frame_trace.specs.OnePicture.{ShowAlike, one_pixel, row_none, row_more}
use Rattle.frame_trace.specs.Pictures.{View, samples, IsPixel, IsRow, IsRectangle, IsPicture}

-- the bytes of a pixel
abbrev pub pixel_length : ℕ → ℕ
pixel_length bits = 3 * (bits / 8)

-- ---- rows of parts of one length

-- each part has so many bytes
abbrev IsEach : (ℕ → List ℕ → Type 0) → ℕ → Type 0
IsEach IsItem size = (i : ℕ) (bytes : List ℕ) → IsItem i bytes → length bytes ≡ size

grown : (size n a b : ℕ) → a ≡ size * n → b ≡ size → a + b ≡ size * suc n
grown size n a b x y = omega arith

row_length : (IsItem : ℕ → List ℕ → Type 0) (first n size : ℕ) (all : List ℕ) → IsEach IsItem size → IsRow IsItem first n all → length all ≡ size * n
row_length IsItem first zero size all each row = ap length (row_none IsItem first all row) ∙ omega arith
row_length IsItem first (suc n) size all each row =
    let joined = row_more IsItem first n all row in
    let front = row_length IsItem first n size joined.front each joined.row in
    let last = each (first + n) joined.last joined.item in
    ap length joined.is ∙ (length-append joined.front joined.last ∙ grown size n (length joined.front) (length joined.last) front last)

-- a part by its number
record Item (IsItem : ℕ → List ℕ → Type 0) (first k size : ℕ) (all : List ℕ) : Type 0 where
  bytes : List ℕ
  is : IsItem (first + k) bytes
  there : (m : ℕ) → m < size → slice_index all (size * k + m) ≡ slice_index bytes m

in_front : (xs ys : List ℕ) (i : ℕ) → i < length xs → slice_index (xs ++ ys) i ≡ slice_index xs i
in_front xs ys i h = sym (get_or-take (length xs) (xs ++ ys) i 0 h) ∙ ap (λ s. get_or s i 0) (take_at xs ys (length xs) refl)

inside : (size k m n : ℕ) → k < n → m < size → size * k + m < size * n
inside size k m n h below = let more : k + 1 ≤ n = omega arith in omega (arith, mul-le-mul_left size more)

found : (IsItem : ℕ → List ℕ → Type 0) (first n size k : ℕ) (all : List ℕ) → IsEach IsItem size → IsRow IsItem first n all → k < n → Item IsItem first k size all
found IsItem first zero size k all each row h = absurd (omega arith)
found IsItem first (suc n) size k all each row h =
    let joined = row_more IsItem first n all row in
    let long = row_length IsItem first n size joined.front each joined.row in
    elim (cases_lt k n) [
      | inl below ↦
          let part = found IsItem first n size k joined.front each joined.row below in
          record {
            bytes = part.bytes;
            is = part.is;
            there = λ m small.
                let within : size * k + m < length joined.front = rw long (inside size k m n below small) in
                ap (λ s. slice_index s (size * k + m)) joined.is ∙ (in_front joined.front joined.last (size * k + m) within ∙ part.there m small);
          }
      | inr above ↦
          let same : k ≡ n = omega arith in
          let Q : ℕ → Type 0 = λ i. IsItem (first + i) joined.last in
          let P : ℕ → Type 0 = λ i. (m : ℕ) → slice_index (joined.front ++ joined.last) (i + m) ≡ slice_index joined.last m in
          let behind : P (length joined.front) = λ m. get_or-append-add joined.front joined.last m 0 in
          let at : P (size * k) = subst P (long ∙ ap (λ i. size * i) (sym same)) behind in
          record {
            bytes = joined.last;
            is = subst Q (sym same) joined.item;
            there = λ m small. ap (λ s. slice_index s (size * k + m)) joined.is ∙ at m;
          }
    ]

-- ---- pixels of a rectangle

samples_long : (bits : ℕ) (colour : List ℤ) → (bits ≡ 8) ⊎ (bits ≡ 16) → length (samples bits colour) ≡ pixel_length bits
samples_long bits colour (inl is) = let P : ℕ → Type 0 = λ b. length (samples b colour) ≡ pixel_length b in subst P (sym is) refl
samples_long bits colour (inr is) = let P : ℕ → Type 0 = λ b. length (samples b colour) ≡ pixel_length b in subst P (sym is) refl

pixel_long : (v : View) (row : ℕ) → (v.format.bits ≡ 8) ⊎ (v.format.bits ≡ 16) → IsEach (λ column. IsPixel v column row) (pixel_length v.format.bits)
pixel_long v row bits = λ i bytes pixel. ap length pixel.are ∙ samples_long v.format.bits pixel.colour bits

row_long : (v : View) (x width : ℕ) → (v.format.bits ≡ 8) ⊎ (v.format.bits ≡ 16) → IsEach (λ row. IsRow (λ column. IsPixel v column row) x width) (pixel_length v.format.bits * width)
row_long v x width bits = λ i bytes row. row_length (λ column. IsPixel v column i) x width (pixel_length v.format.bits) bytes (pixel_long v i bits) row

record Pixel (v : View) (x y width j k : ℕ) (all : List ℕ) : Type 0 where
  bytes : List ℕ
  is : IsPixel v (x + j) (y + k) bytes
  there : (m : ℕ) → m < pixel_length v.format.bits → slice_index all (pixel_length v.format.bits * width * k + (pixel_length v.format.bits * j + m)) ≡ slice_index bytes m

pixel_at : (v : View) (x y width height j k : ℕ) (all : List ℕ) → (v.format.bits ≡ 8) ⊎ (v.format.bits ≡ 16) → IsRectangle v x y width height all → j < width → k < height → Pixel v x y width j k all
pixel_at v x y width height j k all bits drawn jh kh =
    let size = pixel_length v.format.bits in
    let row = found (λ r. IsRow (λ column. IsPixel v column r) x width) y height (size * width) k all (row_long v x width bits) drawn kh in
    let pixel = found (λ column. IsPixel v column (y + k)) x width size j row.bytes (pixel_long v (y + k) bits) row.is jh in
    record {
      bytes = pixel.bytes;
      is = pixel.is;
      there = λ m small. row.there (size * j + m) (inside size j m width jh small) ∙ pixel.there m small;
    }

-- a pixel's byte
pixel_byte : (v : View) → ShowAlike v v → (x y width height j k m : ℕ) (all part : List ℕ) → (v.format.bits ≡ 8) ⊎ (v.format.bits ≡ 16) → IsPicture v all → IsRectangle v x y width height part
    → x + width ≤ v.format.width → y + height ≤ v.format.height → j < width → k < height → m < pixel_length v.format.bits
    → slice_index part (pixel_length v.format.bits * width * k + (pixel_length v.format.bits * j + m))
    ≡ slice_index all (pixel_length v.format.bits * v.format.width * (y + k) + (pixel_length v.format.bits * (x + j) + m))
pixel_byte v alike x y width height j k m all part bits picture drawn wide high jh kh small =
    let here = pixel_at v x y width height j k part bits drawn jh kh in
    let there = pixel_at v 0 0 v.format.width v.format.height (x + j) (y + k) all bits picture (omega arith) (omega arith) in
    let C : ℕ → Type 0 = λ c. IsPixel v c (0 + (y + k)) there.bytes in
    let R : ℕ → Type 0 = λ r. IsPixel v (x + j) r there.bytes in
    let pixel : IsPixel v (x + j) (y + k) there.bytes =
    let c : 0 + (x + j) ≡ x + j = omega arith in let r : 0 + (y + k) ≡ y + k = omega arith in subst R r (subst C c there.is) in
    let same : here.bytes ≡ there.bytes = one_pixel v v alike (x + j) (y + k) here.bytes there.bytes here.is pixel in
    here.there m small ∙ (ap (λ s. slice_index s m) same ∙ sym (there.there m small))

whole_and_rest : (r x : ℕ) → 0 < r → (r * (x / r) + x % r ≡ x) × (x % r < r)
whole_and_rest r x some = (omega arith, omega arith)

pixel_some : (bits : ℕ) → (bits ≡ 8) ⊎ (bits ≡ 16) → 0 < pixel_length bits
pixel_some bits (inl is) = let P : ℕ → Type 0 = λ b. 0 < pixel_length b in subst P (sym is) (omega arith)
pixel_some bits (inr is) = let P : ℕ → Type 0 = λ b. 0 < pixel_length b in subst P (sym is) (omega arith)

product_some : (p width : ℕ) → 0 < p → 0 < width → 0 < p * width
product_some p width some wide = let more : 1 ≤ width = omega arith in omega (arith, mul-le-mul_left p more)

turned : (a b i : ℕ) → i < a * b → i < b * a
turned a b i h = omega arith

further : (p x j m rest : ℕ) → p * j + m ≡ rest → p * (x + j) + m ≡ p * x + rest
further p x j m rest is = omega arith

-- byte i of a rectangle stands in the picture's row of its own row, as far behind its left column
pub rectangle_byte : (v : View) → ShowAlike v v → (x y width height i : ℕ) (all part : List ℕ) → (v.format.bits ≡ 8) ⊎ (v.format.bits ≡ 16) → IsPicture v all → IsRectangle v x y width height part
    → 0 < width → x + width ≤ v.format.width → y + height ≤ v.format.height → i < pixel_length v.format.bits * width * height
    → slice_index part i ≡ slice_index all (pixel_length v.format.bits * v.format.width * (y + i / (pixel_length v.format.bits * width))
    + (pixel_length v.format.bits * x + i % (pixel_length v.format.bits * width)))
rectangle_byte v alike x y width height i all part bits picture drawn some wide high small =
    let p = pixel_length v.format.bits in
    let r = p * width in
    let k = i / r in
    let rest = i % r in
    let j = rest / p in
    let m = rest % p in
    let p_some : 0 < p = pixel_some v.format.bits bits in
    let r_some : 0 < r = product_some p width p_some some in
    let rows = whole_and_rest r i r_some in
    let columns = whole_and_rest p rest p_some in
    let byte =
    pixel_byte v alike x y width height j k m all part bits picture drawn wide high
    (div_below rest p width p_some (turned p width rest rows.1)) (div_below i r height r_some (turned r height i small)) columns.1 in
    let place : r * k + (p * j + m) ≡ i = ap (λ n. r * k + n) columns.0 ∙ rows.0 in
    let spot : p * v.format.width * (y + k) + (p * (x + j) + m) ≡ p * v.format.width * (y + k) + (p * x + rest) =
    ap (λ n. p * v.format.width * (y + k) + n) (further p x j m rest columns.0) in
    let A : ℕ → Type 0 = λ n. slice_index part n ≡ slice_index all (p * v.format.width * (y + k) + (p * (x + j) + m)) in
    subst A place byte ∙ ap (λ n. slice_index all n) spot
