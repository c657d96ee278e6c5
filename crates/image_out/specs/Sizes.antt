-- How large pictures and their files are.
use Rattle.std.specs.Prelude.{ℕ, ◌+◌, ◌*◌, ◌/◌, ◌≡◌, ◌≤◌, ◌⊎◌}
use Rattle.image_out.specs.declared.picture.Sort.{Sort}
use Rattle.image_out.specs.declared.picture.Sort.TheVariants.{Ppm, Targa, TargaRle}

-- a width or a height in pixels
abbrev pub IsSide : ℕ → Type 0
IsSide n = (1 ≤ n) × (n ≤ 8192)

-- a sample has 8 or 16 bits
abbrev pub IsDepth : ℕ → Type 0
IsDepth bits = (bits ≡ 8) ⊎ (bits ≡ 16)

-- the bits of a sample that a sort of file can store
abbrev pub HasDepth : Sort → ℕ → Type 0
HasDepth Ppm bits = IsDepth bits
HasDepth Targa bits = bits ≡ 8
HasDepth TargaRle bits = bits ≡ 8

-- the bytes of a picture: three samples for each pixel
abbrev pub picture_length : ℕ → ℕ → ℕ → ℕ
picture_length width height bits = bits / 8 * 3 * width * height

-- enough for the header and the pixels, each of which may need a packet of its own
abbrev pub room_of : Sort → ℕ → ℕ → ℕ → ℕ
room_of Ppm width height bits = 19 + picture_length width height bits
room_of Targa width height bits = 18 + picture_length width height bits
room_of TargaRle width height bits = 18 + 4 * width * height
