-- Where lamps and cameras may stand, and ways between points. Numbers are raw: 1 unit is 65536.
use Rattle.std.specs.Prelude.{◌-ℤ◌, ◌^◌, Option, Some, None, Result, Ok, Err, if◌then◌else◌}
use Rattle.fix_math.specs.declared.fix.V3.{V3}
use Rattle.fix_math.specs.Matrices.{along, vector, is_vector_within}
use Rattle.scene_lexer.specs.declared.token.Place.{Place}
use Rattle.item_blocks.specs.declared.fault.ParseFault.{ParseFault}

-- a second calculation with the value of the first, or the first's fault
abbrev pub and_then : {A B E : Type 0} → Result A E → (A → Result B E) → Result B E
and_then (Ok a) next = next a
and_then (Err fault) next = Err fault

-- no component is larger than 1,048,576 units: else a fault at this place
abbrev pub reached : Place → V3 → Result V3 ParseFault
reached place v = if is_vector_within (2 ^ 36) v then Ok v else Err (ParseFault.ValueRange place)

-- the way from one point to another
abbrev pub way : V3 → V3 → V3
way from to = vector (λ i. along to i -ℤ along from i)

abbrev pub place_or : Option Place → Place → Place
place_or None place = place
place_or (Some place) other = place
