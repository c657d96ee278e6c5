-- The packets of a row, one after another.
use Rattle.std.proofs.Common.{◌≡◌, ◌+◌, ◌-◌, ◌*◌, ◌<◌, ◌≤◌, ℕ, zero, suc, Bool, true, false, min, List, [], ◌∷◌, ◌++◌, length, take, drop, refl, ap, sym, subst, ◌∙◌, arith, append_assoc, append-nil, length-append, length-drop, length-take, nat_lt, if◌then◌else◌}
use Rattle.std.specs.List.{flat_map, prefix_len}
use Rattle.std.proofs.Common.{⊎_elim}
use Rattle.std.proofs.lemmas.Bool.{cases_lt, lt-ltb, le-ltb}
use Rattle.std.proofs.lemmas.List.Sums.{prefix_len-le-length}
use Rattle.image_out.proofs.PixelLemmas.{length-turned, pixel_first, drop_pixels, pixels_short, take_pixels}
use Rattle.std.proofs.Math.ListN.{drop_of_length-le}
use Rattle.image_out.specs.Pixels.{Pixel, is_same, turned, pixels_of, pixel_at, rows_of, IsWhole}
use Rattle.image_out.specs.Packets.{Packet, Run, Raw, alike_here, unlike, packet_here, packets_from, packets_of, packet_bytes, pixel_count, row_bytes, packed}

-- no more pixels are unlike than there are
pub unlike-le : (ps : List Pixel) → unlike ps ≤ length ps
unfolding unlike
unlike-le [] = omega arith
unlike-le (p ∷ []) = omega arith
unlike-le (p ∷ q ∷ row) =
    elim (is_same p q) as (λ b. (if b then 0 else 1 + unlike (q ∷ row)) ≤ length (p ∷ q ∷ row))
    [ true ↦ omega arith | false ↦ omega (arith, unlike-le (q ∷ row)) ]

-- where no run begins, the first pixel stands before the next run
unlike_some : (p : Pixel) (row : List Pixel) → alike_here (p ∷ row) ≤ 1 → 1 ≤ unlike (p ∷ row)
unfolding unlike
unlike_some p [] h = omega arith
unlike_some p (q ∷ row) h =
    let P : Bool → Type 0 = λ b. 1 + (if b then 1 + prefix_len (is_same p) row else 0) ≤ 1 → 1 ≤ (if b then 0 else 1 + unlike (q ∷ row)) in
    (elim (is_same p q) as P [ true ↦ λ k. omega (arith, k) | false ↦ λ k. omega arith ]) h

-- the two kinds of packet
pub run_here : (p : Pixel) (row : List Pixel) → 1 < alike_here (p ∷ row) → packet_here (p ∷ row) ≡ Run (min 128 (alike_here (p ∷ row))) p
run_here p row h = let t : nat_lt 1 (alike_here (p ∷ row)) ≡ true = lt-ltb _ _ h in ap (λ b. if b then Run (min 128 (alike_here (p ∷ row))) p else Raw (take (min 128 (unlike (p ∷ row))) (p ∷ row))) t

pub raw_here : (p : Pixel) (row : List Pixel) → alike_here (p ∷ row) ≤ 1 → packet_here (p ∷ row) ≡ Raw (take (min 128 (unlike (p ∷ row))) (p ∷ row))
raw_here p row h = let t : nat_lt 1 (alike_here (p ∷ row)) ≡ false = le-ltb _ _ h in ap (λ b. if b then Run (min 128 (alike_here (p ∷ row))) p else Raw (take (min 128 (unlike (p ∷ row))) (p ∷ row))) t

-- a packet with some of a row's first pixels, in at most four bytes for each
pub record Fits (row : List Pixel) (packet : Packet) : Type 0 where
  pub some : 1 ≤ pixel_count packet
  pub most : pixel_count packet ≤ 128
  pub within : pixel_count packet ≤ length row
  pub short : length (packet_bytes packet) ≤ 4 * pixel_count packet

fits_along : (row : List Pixel) (p q : Packet) → p ≡ q → Fits row q → Fits row p
fits_along row p q e f = subst (λ t. Fits row t) (sym e) f

run_fits : (p : Pixel) (row : List Pixel) → 1 < alike_here (p ∷ row) → Fits (p ∷ row) (Run (min 128 (alike_here (p ∷ row))) p)
run_fits p row h =
    let within = prefix_len-le-length (is_same p) row in
    record { some = omega (arith, h); most = omega arith; within = omega (arith, within); short = omega (arith, h) }

raw_fits : (p : Pixel) (row : List Pixel) → alike_here (p ∷ row) ≤ 1 → Fits (p ∷ row) (Raw (take (min 128 (unlike (p ∷ row))) (p ∷ row)))
raw_fits p row h =
    let n = min 128 (unlike (p ∷ row)) in
    let some = unlike_some p row h in
    let within = unlike-le (p ∷ row) in
    let long : length (take n (p ∷ row)) ≡ n = omega (arith, length-take n (p ∷ row), within) in
    record {
      some = omega (arith, long, some);
      most = omega (arith, long);
      within = omega (arith, long, within);
      short = omega (arith, long, some, length-turned (take n (p ∷ row)));
    }

pub packet_fits : (p : Pixel) (row : List Pixel) → Fits (p ∷ row) (packet_here (p ∷ row))
packet_fits p row = ⊎_elim (λ h. fits_along _ _ _ (run_here p row h) (run_fits p row h)) (λ h. fits_along _ _ _ (raw_here p row h) (raw_fits p row h)) (cases_lt 1 (alike_here (p ∷ row)))

-- each packet has at most four bytes for each of its pixels
pub packets_fit : (skip : ℕ) (row : List Pixel) → length (row_bytes (packets_from skip row)) ≤ 4 * (length row - skip)
unfolding packets_from
packets_fit skip [] = omega arith
packets_fit (suc skip) (p ∷ row) = omega (arith, packets_fit skip row)
packets_fit zero (p ∷ row) =
    let f = packet_fits p row in
    let first = packet_bytes (packet_here (p ∷ row)) in
    let later = row_bytes (packets_from (pixel_count (packet_here (p ∷ row)) - 1) row) in
    omega (arith, f.some, f.within, f.short, length-append first later, packets_fit (pixel_count (packet_here (p ∷ row)) - 1) row)

-- pixels that are passed over have no packet
packets_skip : (skip : ℕ) (row : List Pixel) → packets_from skip row ≡ packets_from 0 (drop skip row)
unfolding packets_from
packets_skip zero row = refl
packets_skip (suc skip) [] = refl
packets_skip (suc skip) (p ∷ row) = packets_skip skip row

-- the first packet of a row, and those of the rest
pub packets_first : (p : Pixel) (row : List Pixel)
    → packets_of (p ∷ row) ≡ packet_here (p ∷ row) ∷ packets_of (drop (pixel_count (packet_here (p ∷ row))) (p ∷ row))
unfolding packets_from
packets_first p row =
    let n = pixel_count (packet_here (p ∷ row)) in
    let e : suc (n - 1) ≡ n = omega (arith, (packet_fits p row).some) in
    ap (λ t. packet_here (p ∷ row) ∷ t) (packets_skip (n - 1) row ∙ ap (λ k. packets_from 0 (drop k (p ∷ row))) e)

-- one more pixel of a run
pub alike_more : (s : List ℕ) (p : Pixel) (n : ℕ) → 3 * n + 3 ≤ length s → is_same p (pixel_at s n) ≡ true
    → prefix_len (is_same p) (drop n (pixels_of s)) ≡ 1 + prefix_len (is_same p) (drop (n + 1) (pixels_of s))
alike_more s p n h e =
    ap (prefix_len (is_same p)) (pixel_first n s h) ∙ ap (λ b. if b then 1 + prefix_len (is_same p) (drop (n + 1) (pixels_of s)) else 0) e

-- a pixel that ends a run
pub alike_none : (s : List ℕ) (p : Pixel) (n : ℕ) → 3 * n + 3 ≤ length s → is_same p (pixel_at s n) ≡ false
    → prefix_len (is_same p) (drop n (pixels_of s)) ≡ 0
alike_none s p n h e =
    ap (prefix_len (is_same p)) (pixel_first n s h) ∙ ap (λ b. if b then 1 + prefix_len (is_same p) (drop (n + 1) (pixels_of s)) else 0) e

-- one more pixel before the next run
pub unlike_more : (s : List ℕ) (n : ℕ) → 3 * n + 6 ≤ length s → is_same (pixel_at s n) (pixel_at s (n + 1)) ≡ false
    → unlike (drop n (pixels_of s)) ≡ 1 + unlike (drop (n + 1) (pixels_of s))
unfolding unlike
unlike_more s n h e =
    let rest = drop (n + 1 + 1) (pixels_of s) in
    let next = pixel_first (n + 1) s (omega (arith, h)) in
    ap unlike (pixel_first n s (omega (arith, h)) ∙ ap (λ t. pixel_at s n ∷ t) next)
    ∙ ap (λ b. if b then 0 else 1 + unlike (pixel_at s (n + 1) ∷ rest)) e ∙ ap (λ t. 1 + unlike t) (sym next)

-- a run begins
pub unlike_none : (s : List ℕ) (n : ℕ) → 3 * n + 6 ≤ length s → is_same (pixel_at s n) (pixel_at s (n + 1)) ≡ true
    → unlike (drop n (pixels_of s)) ≡ 0
unfolding unlike
unlike_none s n h e =
    let rest = drop (n + 1 + 1) (pixels_of s) in
    let next = pixel_first (n + 1) s (omega (arith, h)) in
    ap unlike (pixel_first n s (omega (arith, h)) ∙ ap (λ t. pixel_at s n ∷ t) next)
    ∙ ap (λ b. if b then 0 else 1 + unlike (pixel_at s (n + 1) ∷ rest)) e

-- the last pixel of a row
pub unlike_last : (s : List ℕ) (n : ℕ) → IsWhole s → n + 1 ≡ length (pixels_of s) → unlike (drop n (pixels_of s)) ≡ 1
unfolding unlike
unlike_last s n w h =
    let none : drop (n + 1) (pixels_of s) ≡ [] = drop_of_length-le (pixels_of s) (omega (arith, h)) in
    ap unlike (pixel_first n s (omega (arith, w, h)) ∙ ap (λ t. pixel_at s n ∷ t) none)

-- a row that has pixels
pub alike_first : (s : List ℕ) → 3 ≤ length s → 1 + prefix_len (is_same (pixel_at s 0)) (drop 1 (pixels_of s)) ≡ alike_here (pixels_of s)
alike_first s h = sym (ap alike_here (pixel_first 0 s h))

-- what a packet's length says of its kind
pub put_run_here : (s : List ℕ) (n : ℕ) → 3 ≤ length s → n ≡ min 128 (alike_here (pixels_of s)) → 1 < n → packet_here (pixels_of s) ≡ Run n (pixel_at s 0)
put_run_here s n h e more =
    let p = pixel_first 0 s h in
    let a = ap alike_here p in
    ap packet_here p ∙ run_here (pixel_at s 0) (drop 1 (pixels_of s)) (omega (arith, a, e, more)) ∙ ap (λ k. Run k (pixel_at s 0)) (ap (λ k. min 128 k) (sym a) ∙ sym e)

pub put_raw_here : (s : List ℕ) (m n : ℕ) → 3 ≤ length s → m ≡ min 128 (alike_here (pixels_of s)) → m ≤ 1 → n ≡ min 128 (unlike (pixels_of s))
    → packet_here (pixels_of s) ≡ Raw (take n (pixels_of s))
put_raw_here s m n h e few u =
    let p = pixel_first 0 s h in
    let a = ap alike_here p in
    let t : min 128 (unlike (pixel_at s 0 ∷ drop 1 (pixels_of s))) ≡ n = ap (λ k. min 128 (unlike k)) (sym p) ∙ sym u in
    ap packet_here p ∙ raw_here (pixel_at s 0) (drop 1 (pixels_of s)) (omega (arith, a, e, few)) ∙ ap (λ k. Raw (take k (pixel_at s 0 ∷ drop 1 (pixels_of s)))) t ∙ ap (λ t. Raw (take n t)) (sym p)

-- the packet that a row begins with
pub packet_there : (s : List ℕ) → 3 ≤ length s → Fits (pixels_of s) (packet_here (pixels_of s))
packet_there s h =
    let p = pixel_first 0 s h in
    subst (λ t. Fits t (packet_here t)) (sym p) (packet_fits (pixel_at s 0) (drop 1 (pixels_of s)))

-- the packets of the rest of a row behind its first packet
pub packets_more : (s : List ℕ) (n : ℕ) → 3 ≤ length s → n ≡ pixel_count (packet_here (pixels_of s))
    → packets_of (pixels_of s) ≡ packet_here (pixels_of s) ∷ packets_of (pixels_of (drop (3 * n) s))
packets_more s n h e =
    let p = pixel_first 0 s h in
    let f : packets_of (pixels_of s) ≡ packet_here (pixels_of s) ∷ packets_of (drop (pixel_count (packet_here (pixels_of s))) (pixels_of s)) =
    subst (λ t. packets_of t ≡ packet_here t ∷ packets_of (drop (pixel_count (packet_here t)) t)) (sym p) (packets_first (pixel_at s 0) (drop 1 (pixels_of s))) in
    f ∙ ap (λ t. packet_here (pixels_of s) ∷ packets_of t) (ap (λ k. drop k (pixels_of s)) (sym e) ∙ sym (drop_pixels n s))

-- a count and one pixel behind what was there
pub run_by_parts : (s old a b : List ℕ) (n : ℕ) → length s ≡ 3 → a ≡ old ++ (127 + n) ∷ [] → b ≡ a ++ flat_map turned (pixels_of s) → b ≡ old ++ packet_bytes (Run n (pixel_at s 0))
run_by_parts s old a b n h p q =
    let one : pixels_of s ≡ pixel_at s 0 ∷ [] = pixel_first 0 s (omega (arith, h)) ∙ ap (λ t. pixel_at s 0 ∷ t) (sym (drop_pixels 1 s) ∙ pixels_short (drop 3 s) (omega (arith, h, length-drop 3 s))) in
    q ∙ ap (λ t. t ++ flat_map turned (pixels_of s)) p ∙ append_assoc old ((127 + n) ∷ []) (flat_map turned (pixels_of s)) ∙ ap (λ t. old ++ (127 + n) ∷ flat_map turned t) one

-- how many pixels stand before the next run
pub raw_within : (s : List ℕ) (n : ℕ) → n ≡ min 128 (unlike (pixels_of s)) → n ≤ length (pixels_of s)
raw_within s n u = omega (arith, u, unlike-le (pixels_of s))

pub raw_some : (s : List ℕ) (m n : ℕ) → 3 ≤ length s → m ≡ min 128 (alike_here (pixels_of s)) → m ≤ 1 → n ≡ min 128 (unlike (pixels_of s)) → 1 ≤ n
raw_some s m n h e few u =
    let p = pixel_first 0 s h in
    let a = ap alike_here p in
    omega (arith, u, ap unlike p, unlike_some (pixel_at s 0) (drop 1 (pixels_of s)) (omega (arith, a, e, few)))

-- the packets behind those that were written
pub row_more : (s old a b : List ℕ) (n : ℕ) → 3 ≤ length s → n ≡ pixel_count (packet_here (pixels_of s))
    → b ≡ a ++ packet_bytes (packet_here (pixels_of s)) → a ++ row_bytes (packets_of (pixels_of s)) ≡ old
    → b ++ row_bytes (packets_of (pixels_of (drop (3 * n) s))) ≡ old
row_more s old a b n h e q w =
    let later = row_bytes (packets_of (pixels_of (drop (3 * n) s))) in
    ap (λ t. t ++ later) q ∙ append_assoc a (packet_bytes (packet_here (pixels_of s))) later ∙ sym (ap (λ t. a ++ row_bytes t) (packets_more s n h e)) ∙ w

-- nothing is left of a row
pub row_done : (s old a : List ℕ) → length s < 3 → a ++ row_bytes (packets_of (pixels_of s)) ≡ old → a ≡ old
unfolding packets_from
row_done s old a h w = sym (append-nil a) ∙ ap (λ t. a ++ row_bytes (packets_of t)) (sym (pixels_short s h)) ∙ w

-- the rows behind those that were written
pub rows_more : (s old a b row below : List ℕ) (width height left : ℕ) → height ≡ suc left → row ≡ take (3 * width) s → below ≡ drop (3 * width) s
    → b ≡ a ++ row_bytes (packets_of (pixels_of row)) → a ++ packed (rows_of width height (pixels_of s)) ≡ old
    → b ++ packed (rows_of width left (pixels_of below)) ≡ old
unfolding rows_of
rows_more s old a b row below width height left k r u q w =
    let first = row_bytes (packets_of (pixels_of row)) in
    let later = packed (rows_of width left (pixels_of below)) in
    let row_is : take width (pixels_of s) ≡ pixels_of row = sym (ap pixels_of r ∙ take_pixels width s) in
    let below_is : drop width (pixels_of s) ≡ pixels_of below = sym (ap pixels_of u ∙ drop_pixels width s) in
    ap (λ t. t ++ later) q ∙ append_assoc a first later
    ∙ ap (λ t. a ++ (row_bytes (packets_of t) ++ later)) (sym row_is)
    ∙ ap (λ t. a ++ (row_bytes (packets_of (take width (pixels_of s))) ++ packed (rows_of width left t))) (sym below_is)
    ∙ ap (λ n. a ++ packed (rows_of width n (pixels_of s))) (sym k) ∙ w

-- a row more
pub products : (width n left : ℕ) → n ≡ suc left → width * n ≡ width * left + width
products width n left e = ap (λ k. width * k) e ∙ omega arith

-- no row is left
pub rows_done : (width left : ℕ) (pixels : List Pixel) (old a : List ℕ) → left ≡ 0 → a ++ packed (rows_of width left pixels) ≡ old → a ≡ old
unfolding rows_of
rows_done width left pixels old a e w = sym (append-nil a) ∙ ap (λ n. a ++ packed (rows_of width n pixels)) (sym e) ∙ w
