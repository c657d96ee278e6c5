-- How long a file is.
use Rattle.std.proofs.Common.{◌≡◌, ◌+◌, ◌*◌, ◌≤◌, ℕ, zero, suc, true, false, List, [], ◌∷◌, ◌++◌, ◌==◌, if◌then◌else◌, length, take, drop, codes, refl, ap, sym, ◌∙◌, arith, rules, lit≤, length-append, length-take, append_assoc}
use Rattle.std.proofs.lemmas.Fmt.{length-decimal-le}
use Rattle.std.specs.Fmt.{decimal}
use Rattle.image_out.specs.Sizes.{IsSide, picture_length, room_of}
use Rattle.image_out.specs.declared.picture.Sort.{Sort}
use Rattle.image_out.specs.declared.picture.Sort.TheVariants.{Ppm, Targa, TargaRle}
use Rattle.std.specs.List.{flat_map, repeat}
use Rattle.byteorder.specs.Endian.{little_bytes}
use Rattle.image_out.specs.Files.{file_of, greatest_line, ppm_header, targa_header}
use Rattle.image_out.specs.Pixels.{Pixel, pixels_of, turned, rows_of}
use Rattle.image_out.specs.Packets.{packed, packets_of, row_bytes}
use Rattle.image_out.proofs.PacketLemmas.{packets_fit}
use Rattle.image_out.proofs.PixelLemmas.{length-turned-le}

-- a side has at most four digits
pub side_digits : (n : ℕ) → IsSide n → length (decimal n) ≤ 4
side_digits n h = length-decimal-le 4 n (omega arith) (omega (arith, h.1)) (omega (arith, h.1))

greatest_short : (bits : ℕ) → length (greatest_line bits) ≤ 6
greatest_short bits =
    elim (bits == 8) as (λ b. length (if b then codes "255\n" else codes "65535\n") ≤ 6) [ true ↦ lit≤ tt | false ↦ lit≤ tt ]

-- each part of a PPM's header behind the part before it
pub ppm_header_by_parts : (old a b c d e f : List ℕ) (width height bits : ℕ)
    → a ≡ old ++ codes "P6\n" → b ≡ a ++ decimal width → c ≡ b ++ codes " " → d ≡ c ++ decimal height → e ≡ d ++ codes "\n" → f ≡ e ++ greatest_line bits
    → f ≡ old ++ ppm_header width height bits
unfolding ppm_header
ppm_header_by_parts old a b c d e f width height bits p q r s t u = rw (u, t, s, r, q, p) (search (rules, append_assoc))

pub targa_header_by_parts : (old a b c d e : List ℕ) (kind width height : ℕ)
    → a ≡ old ++ (0 ∷ 0 ∷ kind ∷ []) → b ≡ a ++ repeat 9 (0 ∷ []) → c ≡ b ++ little_bytes 2 width → d ≡ c ++ little_bytes 2 height → e ≡ d ++ (24 ∷ 32 ∷ [])
    → e ≡ old ++ targa_header kind width height
unfolding targa_header
targa_header_by_parts old a b c d e kind width height p q r s t = rw (t, s, r, q, p) (search (rules, append_assoc))

-- a header of at most 19 bytes, and the samples
pub ppm_fits : (width height bits : ℕ) (samples : List ℕ) → IsSide width → IsSide height → length (ppm_header width height bits ++ samples) ≤ 19 + length samples
unfolding ppm_header
ppm_fits width height bits samples w h =
    let magic = codes "P6\n" in
    let sides = magic ++ decimal width ++ codes " " ++ decimal height in
    omega (
      arith,
      side_digits width w,
      side_digits height h,
      greatest_short bits,
      length-append magic (decimal width),
      length-append (magic ++ decimal width) (codes " "),
      length-append (magic ++ decimal width ++ codes " ") (decimal height),
      length-append sides (codes "\n"),
      length-append (sides ++ codes "\n") (greatest_line bits),
      length-append (sides ++ codes "\n" ++ greatest_line bits) samples,
    )

pub length-targa : (kind width height : ℕ) → length (targa_header kind width height) ≡ 18
unfolding targa_header
length-targa kind width height = refl

-- 18 bytes and the samples
pub targa_fits : (kind width height : ℕ) (samples : List ℕ) → length (targa_header kind width height ++ flat_map turned (pixels_of samples)) ≤ 18 + length samples
unfolding targa_header
targa_fits kind width height samples =
    omega (arith, length-turned-le samples, length-append (targa_header kind width height) (flat_map turned (pixels_of samples)))

-- each row has at most four bytes for each pixel
packed_fits : (width height : ℕ) (pixels : List Pixel) → length (packed (rows_of width height pixels)) ≤ 4 * width * height
unfolding rows_of
packed_fits width zero pixels = omega arith
packed_fits width (suc height) pixels =
    let row = row_bytes (packets_of (take width pixels)) in
    let below = packed (rows_of width height (drop width pixels)) in
    let all : length (row ++ below) ≤ 4 * width + 4 * width * height =
    omega (arith, length-append row below, packets_fit 0 (take width pixels), length-take width pixels, packed_fits width height (drop width pixels)) in
    omega (arith, all)

-- no file is longer than the room for it
pub file_fits : (sort : Sort) (width height bits : ℕ) (samples : List ℕ) → IsSide width → IsSide height
    → length samples ≡ picture_length width height bits → length (file_of sort width height bits samples) ≤ room_of sort width height bits
unfolding file_of
file_fits Ppm width height bits samples w h e = omega (arith, e, ppm_fits width height bits samples w h)
file_fits Targa width height bits samples w h e = omega (arith, e, targa_fits 2 width height samples)
file_fits TargaRle width height bits samples w h e =
    omega (arith, packed_fits width height (pixels_of samples), length-append (targa_header 10 width height) (packed (rows_of width height (pixels_of samples))), length-targa 10 width height)

-- a header behind what was there, and the pixels behind it
pub ppm_by_parts : (sort : Sort) (width height bits : ℕ) (samples old headed all : List ℕ) → sort ≡ Ppm
    → headed ≡ old ++ ppm_header width height bits → all ≡ headed ++ samples → all ≡ old ++ file_of sort width height bits samples
unfolding file_of
ppm_by_parts sort width height bits samples old headed all k p q =
    q ∙ ap (λ t. t ++ samples) p ∙ append_assoc old (ppm_header width height bits) samples ∙ ap (λ s. old ++ file_of s width height bits samples) (sym k)

pub rle_by_parts : (sort : Sort) (width height bits : ℕ) (samples old headed all : List ℕ) → sort ≡ TargaRle
    → headed ≡ old ++ targa_header 10 width height → all ≡ headed ++ packed (rows_of width height (pixels_of samples)) → all ≡ old ++ file_of sort width height bits samples
unfolding file_of
rle_by_parts sort width height bits samples old headed all k p q =
    q ∙ ap (λ t. t ++ packed (rows_of width height (pixels_of samples))) p ∙ append_assoc old (targa_header 10 width height) (packed (rows_of width height (pixels_of samples))) ∙ ap (λ s. old ++ file_of s width height bits samples) (sym k)

pub targa_by_parts : (sort : Sort) (width height bits : ℕ) (samples old headed all : List ℕ) → sort ≡ Targa
    → headed ≡ old ++ targa_header 2 width height → all ≡ headed ++ flat_map turned (pixels_of samples) → all ≡ old ++ file_of sort width height bits samples
unfolding file_of
targa_by_parts sort width height bits samples old headed all k p q =
    q ∙ ap (λ t. t ++ flat_map turned (pixels_of samples)) p ∙ append_assoc old (targa_header 2 width height) (flat_map turned (pixels_of samples)) ∙ ap (λ s. old ++ file_of s width height bits samples) (sym k)
