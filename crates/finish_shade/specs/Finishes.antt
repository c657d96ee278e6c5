-- What a surface shows of the light that falls on it. (Reference manual, finish)
use Rattle.std.specs.Prelude.{ℕ, ℤ, pos, ◌+ℤ◌, ◌-ℤ◌, ◌^◌, List, int_lt, if◌then◌else◌}
use Rattle.std.specs.Int.{int_min, int_max}
use Rattle.fix_math.specs.declared.fix.V3.{V3}
use Rattle.fix_math.specs.Directions.{unit_of}
use Rattle.fix_math.specs.Matrices.{component, along, vector, row_of}
use Rattle.fix_math.specs.Numbers.{product_of}
use Rattle.fix_math.specs.Vectors.{rounded_dot_of}
use Rattle.scene_model.specs.declared.texture.Finish.{Finish}
use Rattle.finish_shade.specs.Amounts.{unit_power}
use Rattle.finish_shade.specs.Directions.{thrown_back}

-- products of three and four go from left to right
abbrev pub product3 : ℤ → ℤ → ℤ → ℤ
product3 a b c = product_of (product_of a b) c

abbrev pub product4 : ℤ → ℤ → ℤ → ℤ → ℤ
product4 a b c d = product_of (product3 a b c) d

-- the colour of a lamp's light where it arrives, weakened by its cone and its fading
abbrev pub light_of : List ℤ → List ℤ → ℤ → ℤ → List ℤ
light_of colour arriving cone fading = row_of (λ k. product4 (component colour k) (component arriving k) cone fading)

-- what a surface shows without lamps
abbrev pub ambient_part : List ℤ → List ℤ → List ℤ → List ℤ
ambient_part colour ambient ambient_light = row_of (λ k. product3 (component colour k) (component ambient k) (component ambient_light k))

-- of a lamp whose direction has the cosine d with the normal
abbrev pub diffuse_part : List ℤ → List ℤ → ℤ → ℤ → List ℤ
diffuse_part light colour diffuse d = row_of (λ k. product4 (component light k) (component colour k) diffuse d)

-- how bright a highlight is, by a cosine: none where it isn't above 0
abbrev pub brightness : ℤ → ℕ → ℤ
brightness cosine size = if int_lt (pos 0) cosine then unit_power (int_min (pos 65536) cosine) size else pos 0

-- the cosines of the two kinds of highlights, by the ray's direction, the normal and the direction to the lamp
abbrev pub phong_cosine : V3 → V3 → V3 → ℤ
phong_cosine d n ld = rounded_dot_of (thrown_back d n) ld

abbrev pub specular_cosine : V3 → V3 → V3 → ℤ
specular_cosine d n ld = rounded_dot_of n (unit_of (vector (λ i. along ld i -ℤ along d i)))

abbrev pub highlight : List ℤ → ℤ → ℤ → List ℤ
highlight light amount bright = row_of (λ k. product3 (component light k) amount bright)

abbrev pub plus : List ℤ → List ℤ → List ℤ
plus a b = row_of (λ k. component a k +ℤ component b k)

abbrev pub highlights : Finish → V3 → V3 → V3 → List ℤ → List ℤ
highlights finish d n ld light =
    plus
    (highlight light finish.phong (brightness (phong_cosine d n ld) finish.phong_size))
    (highlight light finish.specular (brightness (specular_cosine d n ld) finish.gloss))

-- how much of a surface's own light shows
abbrev pub opacity : List ℤ → ℤ
opacity colour = int_max (pos 0) (pos 65536 -ℤ component colour 3 -ℤ component colour 4)

-- all together: the surface's own light where it is opaque, the highlights, and the two rays that go on, at most 2^14 units
abbrev pub shown : ℤ → List ℤ → List ℤ → List ℤ → List ℤ → List ℤ → List ℤ → List ℤ
shown opaque own highlights reflection thrown through passed =
    row_of (λ k. int_min (pos (2 ^ 30))
    (product_of opaque (component own k) +ℤ component highlights k +ℤ product_of (component reflection k) (component thrown k)
    +ℤ product_of (component through k) (component passed k)))
