-- The rays of a picture's pixels. (Reference manual, camera)
use Rattle.std.specs.Prelude.{ℕ, ℤ, pos, ◌+ℤ◌, ◌-ℤ◌, ◌*ℤ◌, ◌+◌, ◌*◌, if◌then◌else◌}
use Rattle.fix_math.specs.declared.fix.V3.{V3}
use Rattle.fix_math.specs.Directions.{unit_of}
use Rattle.fix_math.specs.Matrices.{along, vector}
use Rattle.fix_math.specs.Numbers.{rnd}
use Rattle.scene_model.specs.declared.camera.Camera.{Camera}
use Rattle.shapes.specs.declared.ray.Ray.{Ray}

-- a part of a picture's width or height, from its middle: the place counts in halves of the parts, of which there are so many
abbrev pub offset : V3 → ℤ → ℕ → V3
offset side place parts = vector (λ i. rnd (along side i *ℤ place) (pos (2 * parts)))

abbrev pub sum : V3 → V3 → V3
sum v w = vector (λ i. along v i +ℤ along w i)

-- the ray at these offsets along the picture's width and height: from the camera's place through the point there, or from the point
-- in the camera's one direction
abbrev pub ray_at : Camera → V3 → V3 → Ray
ray_at c a b =
    if c.orthographic then record { origin = sum (sum c.location a) b; dir = unit_of c.direction }
    else record { origin = c.location; dir = unit_of (sum (sum c.direction a) b) }

-- how far the middle of a part is from the middle of the whole, in halves of a part, along the row and up the column
abbrev pub along_row : ℕ → ℕ → ℤ
along_row width column = pos (2 * column + 1) -ℤ pos width

abbrev pub up_column : ℕ → ℕ → ℤ
up_column height row = pos height -ℤ pos (2 * row + 1)

-- the ray through the middle of a pixel
abbrev pub pixel_ray_of : Camera → ℕ → ℕ → ℕ → ℕ → Ray
pixel_ray_of c width height column row =
    ray_at c (offset c.right (along_row width column) width) (offset c.up (up_column height row) height)

-- the ray through the middle of one of n times n parts of a pixel: part j along the row and k down the column
abbrev pub sub_ray_of : Camera → ℕ → ℕ → ℕ → ℕ → ℕ → ℕ → ℕ → Ray
sub_ray_of c width height column row n j k =
    ray_at c
    (offset c.right (along_row width column *ℤ pos n +ℤ along_row n j) (width * n))
    (offset c.up (up_column height row *ℤ pos n +ℤ up_column n k) (height * n))
