-- The layout of the state file of a frame: a picture of squares of side 32, and its key.
use Rattle.std.specs.Prelude.{ℕ, ◌+◌, ◌-◌, ◌*◌, ◌/◌, ◌%◌, ◌^◌, ◌<◌, ◌≤◌, ◌≡◌, min, List, ◌∷◌, ◌++◌, length}
use Rattle.byteorder.specs.Endian.{little_bytes}
use Rattle.state_file.specs.declared.geometry.Geometry.{Geometry}
use Rattle.state_file.specs.Layout.{Layout}

-- sides of one pixel or more, at most 2^24 pixels, and 8 or 16 bits a sample
pub record IsInLimits (g : Geometry) : Type 0 where
  pub wide : 0 < g.width
  pub high : 0 < g.height
  pub small : g.width * g.height ≤ 2 ^ 24
  pub whole : g.bits % 8 ≡ 0
  pub least : 8 ≤ g.bits
  pub most : g.bits ≤ 16

-- red, green and blue
abbrev pub pixel_bytes : Geometry → ℕ
pixel_bytes g = 3 * (g.bits / 8)

-- the bytes of a row of the picture, and of the picture
abbrev pub picture_row : Geometry → ℕ
picture_row g = pixel_bytes g * g.width

abbrev pub picture_bytes : Geometry → ℕ
picture_bytes g = picture_row g * g.height

-- blocks in a row of blocks, rows of blocks, and blocks
abbrev pub columns : Geometry → ℕ
columns g = (g.width + 31) / 32

abbrev pub bands : Geometry → ℕ
bands g = (g.height + 31) / 32

abbrev pub blocks : Geometry → ℕ
blocks g = columns g * bands g

-- blocks are numbered by rows from the top left; those at the right and lower edges are cut
abbrev pub block_width : Geometry → ℕ → ℕ
block_width g b = min 32 (g.width - 32 * (b % columns g))

abbrev pub block_height : Geometry → ℕ → ℕ
block_height g b = min 32 (g.height - 32 * (b / columns g))

abbrev pub block_row : Geometry → ℕ → ℕ
block_row g b = pixel_bytes g * block_width g b

abbrev pub block_bytes : Geometry → ℕ → ℕ
block_bytes g b = block_row g b * block_height g b

-- the bytes of the blocks before this one: whole rows of blocks, and those to its left
abbrev pub bytes_before : Geometry → ℕ → ℕ
bytes_before g b = picture_row g * (32 * (b / columns g)) + pixel_bytes g * (32 * (b % columns g)) * block_height g b

-- where byte k of a block lies in the picture by rows
abbrev pub spot_of : Geometry → ℕ → ℕ → ℕ
spot_of g b k = picture_row g * (32 * (b / columns g) + k / block_row g b)
    + (pixel_bytes g * (32 * (b % columns g)) + k % block_row g b)

-- version 1 is for 8 bits, 2 for 16
abbrev pub version : Geometry → ℕ
version g = g.bits / 8

-- the version, then the key's length, the width, the height and the number of blocks, four bytes each with the
-- lowest first, and the key
abbrev pub head_of : Geometry → List ℕ → List ℕ
head_of g key = version g ∷ (little_bytes 4 (length key) ++ (little_bytes 4 g.width ++ (little_bytes 4 g.height
    ++ (little_bytes 4 (blocks g) ++ key))))

-- the file's gate, the head, one gate a block, and the pixels of block 0, block 1 and so on, each by rows
unfoldable pub layout_of : Geometry → List ℕ → Layout
layout_of g key = record {
  count = blocks g;
  head = head_of g key;
  gates = 18 + length key;
  pixels = λ b. 18 + length key + blocks g + bytes_before g b;
  size = block_bytes g;
  all = 18 + length key + blocks g + picture_bytes g;
  spot = spot_of g;
  picture = picture_bytes g;
}
