-- The generated scene: a row of balls over a chequered floor.
use Rattle.std.specs.Prelude.{ℕ, zero, suc, ◌/◌, ◌%◌, List, [], ◌∷◌, ◌++◌, codes, pos, ◌-ℤ◌}
use Rattle.std.specs.Fmt.{decimal, signed_decimal}

-- a line with its end
abbrev pub line : List ℕ → List ℕ
line s = s ++ 10 ∷ []

-- what stands before the balls
abbrev pub surroundings : List ℕ
surroundings =
    line (codes "global_settings { assumed_gamma 1 }")
    ++ (line (codes "background { rgb <0.2,0.3,0.5> }")
    ++ (line (codes "camera { location <0,6,-14> look_at <0,0,0> }")
    ++ (line (codes "light_source { <10,20,-10>, rgb 1 }")
    ++ line (codes "plane { y, -1 pigment { checker rgb 1, rgb 0.2 } }"))))

-- where a ball lies: 32 of them in a row from left to right, and rows behind each other
abbrev pub place_of : ℕ → List ℕ
place_of i = signed_decimal (pos (i % 32) -ℤ pos 16) ++ (codes ",0," ++ decimal (i / 32))

-- red and green are told by the last two bits of the ball's number
abbrev pub colour_of : ℕ → List ℕ
colour_of i = decimal (i % 2) ++ (codes "," ++ (decimal (i / 2 % 2) ++ codes ",1"))

-- the line of the ball of this number, from 0
abbrev pub ball : ℕ → List ℕ
ball i =
    codes "sphere { <" ++ (place_of i ++ (codes ">, 0.4 pigment { rgb <" ++ (colour_of i
    ++ line (codes "> } finish { reflection 0.2 } }"))))

-- the lines of the first so many balls
unfoldable pub balls : ℕ → List ℕ
balls zero = []
balls (suc n) = balls n ++ ball n

-- a scene of so many balls
abbrev pub generated_text : ℕ → List ℕ
generated_text n = surroundings ++ balls n
