-- Gradients and colour maps. (Reference manual, gradient and color_map)
use Rattle.std.specs.Prelude.{ℕ, ℤ, pos, ◌+ℤ◌, ◌-ℤ◌, ◌*ℤ◌, List, [], ◌∷◌, int_lt, int_le, if◌then◌else◌}
use Rattle.std.specs.Int.{int_rem_euclid}
use Rattle.fix_math.specs.declared.fix.V3.{V3}
use Rattle.fix_math.specs.Matrices.{component, along, sum3}
use Rattle.fix_math.specs.Numbers.{rnd, product_of}
use Rattle.scene_model.specs.declared.texture.Entry.{Entry}

-- how far along the axis a point is, without whole units
abbrev pub gradient_at : V3 → V3 → ℤ
gradient_at axis q = int_rem_euclid (sum3 (λ i. product_of (along axis i) (along q i))) (pos 65536)

-- a part of the way from one number to another
abbrev pub part_way : ℤ → ℤ → ℤ → ℤ → ℤ
part_way from to way length = from +ℤ rnd ((to -ℤ from) *ℤ way) length

-- a colour by its five channels
abbrev pub five : (ℕ → ℤ) → List ℤ
five f = f 0 ∷ f 1 ∷ f 2 ∷ f 3 ∷ f 4 ∷ []

-- from one entry to the next each channel goes in a straight line
abbrev pub between : Entry → Entry → ℤ → List ℤ
between low high v = five (λ k. part_way (component low.colour k) (component high.colour k) (v -ℤ low.at) (high.at -ℤ low.at))

-- the colour at a place, from the last entry that isn't above it on: here one that isn't, and those behind it
abbrev pub from_entry : Entry → List Entry → ℤ → List ℤ
from_entry entry [] v = entry.colour
from_entry entry (next ∷ rest) v = if int_le next.at v then from_entry next rest v else between entry next v

-- and before the first entry its colour
abbrev pub map_colour : List Entry → ℤ → List ℤ
map_colour [] v = []
map_colour (first ∷ rest) v = if int_lt v first.at then first.colour else from_entry first rest v
