-- Patterns of cells: checkers, bricks and hexagons. (Reference manual, patterns)
-- Each edge of a checker's cell or of a brick lies 32 raw numbers below a multiple of the size, so that a surface at the multiple shows one cell.
use Rattle.std.specs.Prelude.{ℕ, ℤ, pos, ◌+ℤ◌, ◌-ℤ◌, ◌*ℤ◌, Bool, ◌||◌, unsigned_abs, nat_eq, nat_le, int_lt, max, if◌then◌else◌}
use Rattle.std.specs.Int.{int_div_euclid, int_rem_euclid}
use Rattle.std.specs.Ordering.{int_eq}
use Rattle.fix_math.specs.declared.fix.V3.{V3}
use Rattle.fix_math.specs.Matrices.{along, vector, sum3}
use Rattle.fix_math.specs.Numbers.{rnd}

-- a point as its cells are counted
abbrev pub past_edge : V3 → V3
past_edge q = vector (λ i. along q i +ℤ pos 32)

-- 0 for an even number and 1 for an odd one
abbrev pub parity : ℤ → ℕ
parity z = unsigned_abs (int_rem_euclid z (pos 2))

-- ---- checkers: cubes of 1 unit

-- which of two colours shows
abbrev pub checker_place : V3 → ℕ
checker_place q = parity (sum3 (λ i. int_div_euclid (along (past_edge q) i) (pos 65536)))

-- ---- bricks

-- along an axis each brick begins with its mortar
abbrev pub is_mortar : ℤ → ℤ → ℤ → Bool
is_mortar width size z = int_lt (int_rem_euclid z size) width

-- in an odd layer the bricks lie half a brick further back
abbrev pub shift : Bool → ℤ → ℤ
shift odd size = if odd then int_div_euclid size (pos 2) else pos 0

-- whether the layer of bricks is odd
abbrev pub is_odd_layer : ℤ → ℤ → Bool
is_odd_layer size z = nat_eq (parity (int_div_euclid z size)) 1

-- layers of bricks lie upon each other along y
abbrev pub shows_mortar : ℤ → V3 → V3 → Bool
shows_mortar width size p =
    let odd = is_odd_layer size.y p.y in
    is_mortar width size.y p.y || (is_mortar width size.x (p.x +ℤ shift odd size.x) || is_mortar width size.z (p.z +ℤ shift odd size.z))

-- ---- hexagons: prisms along y

-- how far a point is along three directions, each across two sides of the hexagons: the three sum to 0. The factor is the root of 1/3.
abbrev pub across : V3 → V3
across q =
    let h = rnd (q.z *ℤ pos 37837) (pos 65536) in
    record { x = pos 2 *ℤ q.x; y = pos 3 *ℤ h -ℤ q.x; z = pos 0 -ℤ q.x -ℤ pos 3 *ℤ h }

-- the nearest middle of a hexagon along a direction, and how far off that is
abbrev pub nearest : ℤ → ℤ
nearest z = rnd z (pos 196608)

abbrev pub error : ℤ → ℕ
error z = unsigned_abs (z -ℤ nearest z *ℤ pos 196608)

-- the first number less the second, of three that sum to 0: where they don't, the one with the largest error, the first of
-- equal ones, is minus the sum of the others
abbrev pub first_less_second : ℤ → ℤ → ℤ → ℕ → ℕ → ℕ → ℤ
first_less_second a b c a_error b_error c_error =
    if int_eq (a +ℤ b +ℤ c) (pos 0) then a -ℤ b
    else if nat_le (max b_error c_error) a_error then pos 0 -ℤ (b +ℤ c) -ℤ b
    else if nat_le c_error b_error then a +ℤ (a +ℤ c)
    else a -ℤ b

-- which of three colours shows
abbrev pub hexagon_place : V3 → ℕ
hexagon_place q =
    let f = across q in
    unsigned_abs (int_rem_euclid (first_less_second (nearest f.x) (nearest f.y) (nearest f.z) (error f.x) (error f.y) (error f.z)) (pos 3))
