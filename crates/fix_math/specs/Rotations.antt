-- Rotations about the axes by an angle in degrees, in the left-handed system. (POV-Ray manual, 'Transformations')
-- Entries have 32 fraction bits, so 1 is 2 ^ 32.
use Rattle.std.specs.Prelude.{ℤ, pos, neg_ℤ, ◌^◌, List, [], ◌∷◌}
use Rattle.fix_math.specs.Angles.{sine_of, cosine_of}

abbrev pub about_x : ℤ → List (List ℤ)
about_x deg =
    let s = sine_of deg in let c = cosine_of deg in
    (pos (2 ^ 32) ∷ pos 0 ∷ pos 0 ∷ []) ∷ (pos 0 ∷ c ∷ neg_ℤ s ∷ []) ∷ (pos 0 ∷ s ∷ c ∷ []) ∷ []

abbrev pub about_y : ℤ → List (List ℤ)
about_y deg =
    let s = sine_of deg in let c = cosine_of deg in
    (c ∷ pos 0 ∷ s ∷ []) ∷ (pos 0 ∷ pos (2 ^ 32) ∷ pos 0 ∷ []) ∷ (neg_ℤ s ∷ pos 0 ∷ c ∷ []) ∷ []

abbrev pub about_z : ℤ → List (List ℤ)
about_z deg =
    let s = sine_of deg in let c = cosine_of deg in
    (c ∷ neg_ℤ s ∷ pos 0 ∷ []) ∷ (s ∷ c ∷ pos 0 ∷ []) ∷ (pos 0 ∷ pos 0 ∷ pos (2 ^ 32) ∷ []) ∷ []
