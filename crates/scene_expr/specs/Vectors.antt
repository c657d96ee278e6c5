-- Calls of vectors. (Reference manual, vector functions)
use Rattle.std.specs.Prelude.{ℤ, pos, List, Result, Ok, Err}
use Rattle.fix_math.specs.Matrices.{image, vector}
use Rattle.fix_math.specs.Numbers.{shortened}
use Rattle.fix_math.specs.Outcomes.{in_range}
use Rattle.fix_math.specs.Rotations.{about_x, about_y, about_z}
use Rattle.fix_math.specs.Vectors.{length_of, rounded_dot_of, rounded_cross_of}
use Rattle.fix_math.specs.declared.fix.NumFault.{NumFault}
use Rattle.fix_math.specs.declared.fix.V3.{V3}

abbrev pub dot_value : V3 → V3 → Result ℤ NumFault
dot_value v w = in_range (rounded_dot_of v w)

abbrev pub length_value : V3 → Result ℤ NumFault
length_value v = in_range (pos (length_of v))

-- what is made of what an earlier calculation left
abbrev pub and_then : {A B : Type 0} → Result A NumFault → (A → Result B NumFault) → Result B NumFault
and_then (Ok a) next = next a
and_then (Err fault) next = Err fault

-- the vector, where each component is in the range of a value
abbrev pub vector_in_range : V3 → Result V3 NumFault
vector_in_range v =
    and_then (in_range v.x) (λ x. and_then (in_range v.y) (λ y. and_then (in_range v.z) (λ z. Ok (record { x = x; y = y; z = z }))))

abbrev pub cross_value : V3 → V3 → Result V3 NumFault
cross_value v w = vector_in_range (rounded_cross_of v w)

-- the image by a rotation, rounded once
abbrev pub turned : List (List ℤ) → V3 → Result V3 NumFault
turned rotation v = vector_in_range (vector (λ i. shortened (image rotation v i) 32))

-- about x, then y, then z, by so many degrees each
abbrev pub rotated : V3 → V3 → Result V3 NumFault
rotated v w = and_then (and_then (turned (about_x w.x) v) (turned (about_y w.y))) (turned (about_z w.z))
