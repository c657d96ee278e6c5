-- The packets of a row unpack to it.
use Rattle.std.proofs.Common.{◌≡◌, ◌+◌, ◌-◌, ◌*◌, ◌/◌, ◌≤◌, ℕ, zero, suc, Bool, true, false, min, List, [], ◌∷◌, ◌++◌, ◌==◌, ◌&&◌, length, take, drop, refl, ap, sym, subst, ◌∙◌, ⊎_elim, arith, append_assoc, length-append, length-drop, All, if◌then◌else◌}
use Rattle.std.specs.List.{prefix_len}
use Rattle.std.proofs.Math.ListN.{replicate}
use Rattle.std.proofs.lemmas.Bool.{cases_lt, and_parts, eqb-true}
use Rattle.std.proofs.Common.{take-append-drop}
use Rattle.std.proofs.lemmas.List.{length-take-le}
use Rattle.std.proofs.lemmas.List.Elements.{All-cons}
use Rattle.image_out.specs.Pixels.{Pixel, is_same, pixels_of, rows_of}
use Rattle.image_out.specs.Packets.{Packet, IsPacket, packet_pixels, pixel_count, packet_here, packets_from, packets_of, alike_here, unlike, packed}
use Rattle.std.proofs.Math.Seq.{drop-append_seam}
use Rattle.image_out.specs.declared.picture.Sort.{Sort}
use Rattle.image_out.specs.declared.picture.Sort.TheVariants.{TargaRle}
use Rattle.image_out.specs.Sizes.{HasDepth, picture_length}
use Rattle.image_out.specs.Files.{file_of, targa_header}
use Rattle.image_out.proofs.PixelLemmas.{whole_of}
use Rattle.image_out.proofs.FileLemmas.{length-targa}
use Rattle.image_out.specs.Unpacking.{pixels_in, Unpacks}
use Rattle.image_out.proofs.PacketLemmas.{unlike-le, packet_fits, run_here, raw_here}

-- pixels with the same samples are one
same_is : (p q : Pixel) → is_same p q ≡ true → p ≡ q
same_is p q h =
    let outer = and_parts ((p.red == q.red) && (p.green == q.green)) (p.blue == q.blue) h in
    let inner = and_parts (p.red == q.red) (p.green == q.green) outer.0 in
    ap (λ n. let r : Pixel = record { red = n; green = p.green; blue = p.blue } in r) (eqb-true p.red q.red inner.0)
    ∙ ap (λ n. let r : Pixel = record { red = q.red; green = n; blue = p.blue } in r) (eqb-true p.green q.green inner.1)
    ∙ ap (λ n. let r : Pixel = record { red = q.red; green = q.green; blue = n } in r) (eqb-true p.blue q.blue outer.1)

-- a run is as many pixels of the row
run_front : (n : ℕ) (p : Pixel) (row : List Pixel) → n ≤ prefix_len (is_same p) row → replicate n p ≡ take n row
run_front zero p row h = refl
run_front (suc n) p [] h = absurd (omega (arith, h))
run_front (suc n) p (q ∷ row) h =
    let P : Bool → Type 0 = λ b. is_same p q ≡ b → suc n ≤ (if b then 1 + prefix_len (is_same p) row else 0) → replicate (suc n) p ≡ take (suc n) (q ∷ row) in
    (elim (is_same p q) as P [
      | true ↦ λ e k. ap (λ t. t ∷ replicate n p) (same_is p q e) ∙ ap (λ t. q ∷ t) (run_front n p row (omega (arith, k)))
      | false ↦ λ e k. absurd (omega (arith, k))
    ]) refl h

-- the pixels of each kind of packet are those that the row begins with
run_pixels : (p : Pixel) (row : List Pixel) → replicate (min 128 (alike_here (p ∷ row))) p ≡ take (min 128 (alike_here (p ∷ row))) (p ∷ row)
run_pixels p row =
    let n = min 128 (alike_here (p ∷ row)) in
    let e : suc (n - 1) ≡ n = omega arith in
    ap (λ j. replicate j p) (sym e) ∙ ap (λ t. p ∷ t) (run_front (n - 1) p row (omega arith)) ∙ ap (λ j. take j (p ∷ row)) e

raw_pixels : (row : List Pixel) → take (min 128 (unlike row)) row ≡ take (length (take (min 128 (unlike row)) row)) row
raw_pixels row =
    let n = min 128 (unlike row) in
    ap (λ j. take j row) (sym (length-take-le n row (omega (arith, unlike-le row))))

-- a packet stands for the pixels that the row begins with
packet_front : (p : Pixel) (row : List Pixel) → packet_pixels (packet_here (p ∷ row)) ≡ take (pixel_count (packet_here (p ∷ row))) (p ∷ row)
packet_front p row =
    let Q : Packet → Type 0 = λ t. packet_pixels t ≡ take (pixel_count t) (p ∷ row) in
    ⊎_elim (λ h. subst Q (sym (run_here p row h)) (run_pixels p row)) (λ h. subst Q (sym (raw_here p row h)) (raw_pixels (p ∷ row))) (cases_lt 1 (alike_here (p ∷ row)))

-- the packets stand for the row's pixels
pub packets_unpack : (skip : ℕ) (row : List Pixel) → pixels_in (packets_from skip row) ≡ drop skip row
unfolding packets_from
packets_unpack zero [] = refl
packets_unpack (suc skip) [] = refl
packets_unpack (suc skip) (p ∷ row) = packets_unpack skip row
packets_unpack zero (p ∷ row) =
    let n = pixel_count (packet_here (p ∷ row)) in
    let e : suc (n - 1) ≡ n = omega (arith, (packet_fits p row).some) in
    ap (λ t. packet_pixels (packet_here (p ∷ row)) ++ t) (packets_unpack (n - 1) row ∙ ap (λ j. drop j (p ∷ row)) e)
    ∙ ap (λ t. t ++ drop n (p ∷ row)) (packet_front p row) ∙ take-append-drop n (p ∷ row)

pub packets_each : (skip : ℕ) (row : List Pixel) → All IsPacket (packets_from skip row)
unfolding packets_from
packets_each skip [] = λ k d h. absurd (omega (arith, h))
packets_each (suc skip) (p ∷ row) = packets_each skip row
packets_each zero (p ∷ row) =
    let f = packet_fits p row in
    All-cons IsPacket (packet_here (p ∷ row)) (packets_from (pixel_count (packet_here (p ∷ row)) - 1) row) (f.some, f.most) (packets_each (pixel_count (packet_here (p ∷ row)) - 1) row)

-- the packets of rows unpack to the rows
pub packed_unpacks : (width height : ℕ) (pixels : List Pixel) → length pixels ≡ width * height
    → Unpacks width (packed (rows_of width height pixels)) (rows_of width height pixels)
unfolding rows_of
packed_unpacks width zero pixels h = refl
packed_unpacks width (suc height) pixels h =
    let row = take width pixels in
    let all : width * suc height ≡ width + width * height = omega arith in
    let whole : length (pixels_in (packets_of row)) ≡ width = ap length (packets_unpack 0 row) ∙ length-take-le width pixels (omega (arith, h, all)) in (
      packets_of row,
      packed (rows_of width height (drop width pixels)),
      record { each = packets_each 0 row; whole = whole },
      packets_unpack 0 row,
      refl,
      packed_unpacks width height (drop width pixels) (omega (arith, h, all, length-drop width pixels)),
    )

-- what stands behind the header of a run-length file
pub file_unpacks : (sort : Sort) (width height bits : ℕ) (samples old all : List ℕ) → sort ≡ TargaRle → length samples ≡ picture_length width height bits → bits ≡ 8
    → all ≡ old ++ file_of sort width height bits samples
    → Unpacks width (drop (length old + 18) all) (rows_of width height (pixels_of samples))
unfolding file_of
file_unpacks sort width height bits samples old all k h b e =
    let rows = rows_of width height (pixels_of samples) in
    let header = targa_header 10 width height in
    let split : all ≡ (old ++ header) ++ packed rows =
    e ∙ ap (λ s. old ++ file_of s width height bits samples) k ∙ sym (append_assoc old header (packed rows)) in
    let long : length (old ++ header) ≡ length old + 18 = omega (arith, length-append old header, length-targa 10 width height) in
    let tail : drop (length old + 18) all ≡ packed rows =
    ap (λ n. drop n all) (sym long) ∙ ap (drop (length (old ++ header))) split ∙ drop-append_seam (old ++ header) (packed rows) in
    let size : length samples ≡ 3 * (width * height) = omega (arith, h, ap (λ n. n / 8 * 3 * width * height) b) in
    subst (λ t. Unpacks width t rows) (sym tail) (packed_unpacks width height (pixels_of samples) ((whole_of (width * height) samples size).0))

-- a run-length file has 8 bits a sample
pub depth_of_rle : (sort : Sort) (bits : ℕ) → sort ≡ TargaRle → HasDepth sort bits → bits ≡ 8
depth_of_rle sort bits k h = subst (λ s. HasDepth s bits) k h
