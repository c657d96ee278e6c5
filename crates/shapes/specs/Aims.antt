-- What a ray has in common with every sphere.
use Rattle.std.specs.Prelude.{ℤ, ◌+ℤ◌, ◌*ℤ◌}
use Rattle.fix_math.specs.declared.fix.V3.{V3}

-- the product of two vectors
abbrev pub dot_of : (a b c x y z : ℤ) → ℤ
dot_of a b c x y z = (a *ℤ x) +ℤ (b *ℤ y) +ℤ (c *ℤ z)

abbrev pub length_square_of : V3 → ℤ
length_square_of v = dot_of v.x v.y v.z v.x v.y v.z
