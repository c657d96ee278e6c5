-- Pixels, as three samples each.
use Rattle.std.specs.Prelude.{ℕ, zero, suc, ◌+◌, ◌*◌, ◌≡◌, Bool, ◌==◌, ◌&&◌, List, [], ◌∷◌, length, take, drop, slice_index}

pub record Pixel : Type 0 where
  pub red : ℕ
  pub green : ℕ
  pub blue : ℕ

abbrev pub is_same : Pixel → Pixel → Bool
is_same p q = (p.red == q.red) && (p.green == q.green) && (p.blue == q.blue)

-- the pixels of samples red, green, blue
unfoldable pub pixels_of : List ℕ → List Pixel
pixels_of (red ∷ green ∷ blue ∷ samples) = record { red = red; green = green; blue = blue } ∷ pixels_of samples
pixels_of _ = []

-- the samples are those of whole pixels
abbrev pub IsWhole : List ℕ → Type 0
IsWhole samples = length samples ≡ 3 * length (pixels_of samples)

-- the pixel of so many samples' place
abbrev pub pixel_at : List ℕ → ℕ → Pixel
pixel_at samples i =
    record { red = slice_index samples (3 * i); green = slice_index samples (3 * i + 1); blue = slice_index samples (3 * i + 2) }

-- a pixel in the order blue, green, red
abbrev pub turned : Pixel → List ℕ
turned p = p.blue ∷ p.green ∷ p.red ∷ []

-- pixels by rows from the top
unfoldable pub rows_of : ℕ → ℕ → List Pixel → List (List Pixel)
rows_of width zero pixels = []
rows_of width (suc height) pixels = take width pixels ∷ rows_of width height (drop width pixels)
