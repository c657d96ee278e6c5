-- The pictures of a scene. (Reference manual, supersampling method 1)
use Rattle.std.specs.Prelude.{◌≡◌, ℕ, zero, suc, ◌+◌, ◌*◌, ◌/◌, ◌-◌, ◌^◌, ◌<◌, ℤ, pos, ◌+ℤ◌, ◌-ℤ◌, ◌*ℤ◌, ◌≤ℤ◌, ◌<ℤ◌, unsigned_abs, Option, Some, None, List, [], ◌++◌}
use Rattle.std.specs.Int.{int_min}
use Rattle.byteorder.specs.Endian.{big_bytes}
use Rattle.csg_hits.specs.Surfaces.{Surfaces}
use Rattle.finish_shade.specs.Shades.{IsShade}
use Rattle.fix_math.specs.Matrices.{component, row_of}
use Rattle.fix_math.specs.Numbers.{rnd}
use Rattle.frame_trace.specs.PixelRays.{pixel_ray_of, sub_ray_of}
use Rattle.frame_trace.specs.declared.format.Antialias.{Antialias}
use Rattle.frame_trace.specs.declared.format.Format.{Format}
use Rattle.scene_model.specs.declared.scene.Scene.{Scene}
use Rattle.shapes.specs.declared.ray.Ray.{Ray}

-- what a picture is drawn of, and in what format
pub record View : Type 0 where
  pub surfaces : Surfaces
  pub scene : Scene
  pub format : Format

-- ---- colours

-- a colour, each channel at most 1
abbrev pub cut : List ℤ → List ℤ
cut colour = row_of (λ i. int_min (pos 65536) (component colour i))

-- the colour of a ray in a picture: of full weight, with all of the scene's levels, cut
pub record IsSeen (v : View) (ray : Ray) (colour : List ℤ) : Type 0 where
  pub light : List ℤ
  pub shade : IsShade v.surfaces v.scene v.scene.levels ray (pos 65536) light
  pub is : colour ≡ cut light

-- the plain colour of a pixel: that of the ray through its middle
abbrev pub IsPlain : View → ℕ → ℕ → List ℤ → Type 0
IsPlain v column row colour = IsSeen v (pixel_ray_of v.scene.camera v.format.width v.format.height column row) colour

-- the colour of one of n times n parts of a pixel
abbrev pub IsPart : View → ℕ → ℕ → ℕ → ℕ → ℕ → List ℤ → Type 0
IsPart v n column row j k colour = IsSeen v (sub_ray_of v.scene.camera v.format.width v.format.height column row n j k) colour

-- the sum of so many colours, one for each number
pub data IsSum (IsTerm : ℕ → List ℤ → Type 0) : ℕ → List ℤ → Type 0 where
  none : IsSum IsTerm zero (row_of (λ i. pos 0))
  more : (n : ℕ) (sum colour : List ℤ) → IsSum IsTerm n sum → IsTerm n colour
      → IsSum IsTerm (suc n) (row_of (λ i. component sum i +ℤ component colour i))

-- the fine colour of a pixel: the mean of its parts
pub record IsFine (v : View) (n column row : ℕ) (colour : List ℤ) : Type 0 where
  pub sum : List ℤ
  pub parts : IsSum (λ k. IsSum (λ j. IsPart v n column row j k) n) n sum
  pub is : colour ≡ row_of (λ i. rnd (component sum i) (pos (n * n)))

-- ---- pixels

-- the pixels left of another, above it, right of it and below it, in the picture
pub data IsNeighbour (f : Format) : ℕ → ℕ → ℕ → ℕ → Type 0 where
  left : (column row : ℕ) → IsNeighbour f (suc column) row column row
  upper : (column row : ℕ) → IsNeighbour f column (suc row) column row
  right : (column row : ℕ) → suc column < f.width → IsNeighbour f column row (suc column) row
  lower : (column row : ℕ) → suc row < f.height → IsNeighbour f column row column (suc row)

-- how much two colours differ
abbrev pub difference : List ℤ → List ℤ → ℕ
difference a b =
    unsigned_abs (component a 0 -ℤ component b 0) + unsigned_abs (component a 1 -ℤ component b 1) + unsigned_abs (component a 2 -ℤ component b 2)

-- no neighbour's plain colour differs from this one by more than a threshold
abbrev pub IsEven : View → ℤ → ℕ → ℕ → List ℤ → Type 0
IsEven v threshold column row colour =
    (c r : ℕ) → IsNeighbour v.format column row c r → (other : List ℤ) × IsPlain v c r other × (pos (difference colour other) ≤ℤ threshold)

-- some neighbour's does
pub record IsUneven (v : View) (threshold : ℤ) (column row : ℕ) (colour : List ℤ) : Type 0 where
  pub c : ℕ
  pub r : ℕ
  pub beside : IsNeighbour v.format column row c r
  pub other : List ℤ
  pub plain : IsPlain v c r other
  pub differs : threshold <ℤ pos (difference colour other)

-- a pixel is as its ray shows it where the threshold is above 0 and no neighbour differs by more, and else fine
pub data IsSmooth (v : View) (a : Antialias) (column row : ℕ) : List ℤ → Type 0 where
  plain : (colour : List ℤ) → pos 0 <ℤ a.threshold → IsPlain v column row colour → IsEven v a.threshold column row colour
      → IsSmooth v a column row colour
  uneven : (colour fine : List ℤ) → IsPlain v column row colour → IsUneven v a.threshold column row colour
      → IsFine v a.depth column row fine → IsSmooth v a column row fine
  always : (fine : List ℤ) → a.threshold ≤ℤ pos 0 → IsFine v a.depth column row fine → IsSmooth v a column row fine

-- the colour of a pixel
abbrev pub IsColour : Option Antialias → View → ℕ → ℕ → List ℤ → Type 0
IsColour None v column row colour = IsPlain v column row colour
IsColour (Some a) v column row colour = IsSmooth v a column row colour

-- ---- samples

-- a channel as a whole number of so many bits: 1 is the greatest
abbrev pub sample : ℕ → ℤ → ℕ
sample bits channel = unsigned_abs (rnd (channel *ℤ pos (2 ^ bits - 1)) (pos 65536))

-- the samples of a colour: red, green and blue, each of one byte or two, the high one first
abbrev pub samples : ℕ → List ℤ → List ℕ
samples bits colour =
    big_bytes (bits / 8) (sample bits (component colour 0)) ++ (big_bytes (bits / 8) (sample bits (component colour 1)) ++ big_bytes (bits / 8) (sample bits (component colour 2)))

-- the bytes of a pixel
pub record IsPixel (v : View) (column row : ℕ) (bytes : List ℕ) : Type 0 where
  pub colour : List ℤ
  pub shown : IsColour v.format.antialias v column row colour
  pub are : bytes ≡ samples v.format.bits colour

-- the bytes of so many parts one after another, numbered from a first one on
pub data IsRow (IsItem : ℕ → List ℕ → Type 0) (first : ℕ) : ℕ → List ℕ → Type 0 where
  none : IsRow IsItem first zero []
  more : (n : ℕ) (front last : List ℕ) → IsRow IsItem first n front → IsItem (first + n) last → IsRow IsItem first (suc n) (front ++ last)

-- the bytes of a rectangle, by rows from the top
abbrev pub IsRectangle : View → ℕ → ℕ → ℕ → ℕ → List ℕ → Type 0
IsRectangle v x y width height = IsRow (λ row. IsRow (λ column. IsPixel v column row) x width) y height

-- the bytes of the picture
abbrev pub IsPicture : View → List ℕ → Type 0
IsPicture v = IsRectangle v 0 0 v.format.width v.format.height
