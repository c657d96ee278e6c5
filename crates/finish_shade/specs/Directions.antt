-- The directions of rays that leave a surface: thrown back, and bent on their way through. (Reference manual, reflection and interior)
use Rattle.std.specs.Prelude.{ℤ, pos, neg_ℤ, ◌+ℤ◌, ◌-ℤ◌, ◌*ℤ◌, Bool, int_lt, if◌then◌else◌, unsigned_abs}
use Rattle.std.specs.Int.{int_min}
use Rattle.std.specs.Ordering.{int_eq}
use Rattle.fix_math.specs.declared.fix.V3.{V3}
use Rattle.fix_math.specs.Directions.{unit_of}
use Rattle.fix_math.specs.Matrices.{along, vector}
use Rattle.fix_math.specs.Numbers.{rnd, product_of}
use Rattle.fix_math.specs.Roots.{root}
use Rattle.fix_math.specs.Vectors.{rounded_dot_of}

abbrev pub opposite : V3 → V3
opposite n = vector (λ i. neg_ℤ (along n i))

-- a normal, on the side that the ray of direction d comes from
abbrev pub turned_against : V3 → V3 → V3
turned_against d n = if int_lt (pos 0) (rounded_dot_of n d) then opposite n else n

-- thrown back by a surface
abbrev pub thrown_back : V3 → V3 → V3
thrown_back d n =
    let dn = rounded_dot_of d n in
    unit_of (vector (λ i. along d i -ℤ pos 2 *ℤ product_of dn (along n i)))

-- the indices of refraction on the ray's side and behind the surface: outside of everything it is 1
abbrev pub index_before : Bool → ℤ → ℤ
index_before entering ior = if entering then pos 65536 else ior

abbrev pub index_behind : Bool → ℤ → ℤ
index_behind entering ior = if entering then ior else pos 65536

abbrev pub index_ratio : Bool → ℤ → ℤ
index_ratio entering ior = rnd (pos 65536 *ℤ index_before entering ior) (index_behind entering ior)

-- the cosine between the ray and the normal, and the square of the cosine behind the surface, which is below 0 where no ray gets through
abbrev pub cosine_before : V3 → V3 → ℤ
cosine_before d n = int_min (pos 65536) (neg_ℤ (rounded_dot_of d n))

abbrev pub square_behind : ℤ → ℤ → ℤ
square_behind eta c = pos 65536 -ℤ product_of (product_of eta eta) (pos 65536 -ℤ product_of c c)

-- bent by the ratio of the indices: Snell's law
abbrev pub bent : V3 → V3 → ℤ → ℤ → ℤ → V3
bent d n eta c k =
    let side = product_of eta c -ℤ pos (root (unsigned_abs (k *ℤ pos 65536))) in
    unit_of (vector (λ i. rnd (eta *ℤ along d i +ℤ side *ℤ along n i) (pos 65536)))

-- bent, or thrown back where no ray gets through
abbrev pub bent_or_thrown_back : V3 → V3 → ℤ → ℤ → V3
bent_or_thrown_back d n eta c =
    let k = square_behind eta c in
    if int_lt k (pos 0) then thrown_back d n else bent d n eta c k

-- on its way through a surface
abbrev pub passed_on : V3 → V3 → Bool → ℤ → V3
passed_on d n entering ior =
    if int_eq ior (pos 65536) then d else bent_or_thrown_back d n (index_ratio entering ior) (cosine_before d n)
