-- The bytes of a picture's file. (Netpbm, ppm(5); Truevision TGA 2.0)
use Rattle.std.specs.Prelude.{ℕ, ◌==◌, List, [], ◌∷◌, ◌++◌, codes, decimal, if◌then◌else◌}
use Rattle.std.specs.List.{flat_map, repeat}
use Rattle.byteorder.specs.Endian.{little_bytes}
use Rattle.image_out.specs.declared.picture.Sort.{Sort}
use Rattle.image_out.specs.declared.picture.Sort.TheVariants.{Ppm, Targa, TargaRle}
use Rattle.image_out.specs.Pixels.{pixels_of, turned, rows_of}
use Rattle.image_out.specs.Packets.{packed}

-- the greatest sample
abbrev pub greatest_line : ℕ → List ℕ
greatest_line bits = if bits == 8 then codes "255\n" else codes "65535\n"

-- the magic number, the width and the height, and the greatest sample
unfoldable pub ppm_header : ℕ → ℕ → ℕ → List ℕ
ppm_header width height bits =
    codes "P6\n" ++ decimal width ++ codes " " ++ decimal height ++ codes "\n" ++ greatest_line bits

-- no text and no colour map, the image's kind, its origin and its sides, 24 bits a pixel, the first row on top
unfoldable pub targa_header : ℕ → ℕ → ℕ → List ℕ
targa_header kind width height =
    0 ∷ 0 ∷ kind ∷ repeat 9 (0 ∷ []) ++ little_bytes 2 width ++ little_bytes 2 height ++ 24 ∷ 32 ∷ []

-- the file of a picture of these samples
unfoldable pub file_of : Sort → ℕ → ℕ → ℕ → List ℕ → List ℕ
file_of Ppm width height bits samples = ppm_header width height bits ++ samples
file_of Targa width height bits samples = targa_header 2 width height ++ flat_map turned (pixels_of samples)
file_of TargaRle width height bits samples =
    targa_header 10 width height ++ packed (rows_of width height (pixels_of samples))
