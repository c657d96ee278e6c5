-- The light of lamps that arrives at a surface, and what the surface shows of it. (Reference manual, light_source, filter and transmit)
use Rattle.std.specs.Prelude.{ℕ, ℤ, pos, ◌≡◌, ◌≤◌, ◌<◌, ◌-ℤ◌, true, false, int_lt, if◌then◌else◌, List, [], ◌∷◌, Some}
use Rattle.fix_math.specs.declared.fix.V3.{V3}
use Rattle.fix_math.specs.Directions.{unit_of}
use Rattle.fix_math.specs.Matrices.{along, vector, row_of}
use Rattle.fix_math.specs.Vectors.{length_of, rounded_dot_of}
use Rattle.scene_model.specs.declared.light.Light.{Light}
use Rattle.scene_model.specs.declared.scene.Scene.{Scene}
use Rattle.shapes.specs.declared.ray.Ray.{Ray}
use Rattle.csg_hits.specs.declared.world.Hit.{Hit}
use Rattle.csg_hits.specs.Hits.{IsHit, IsNearest}
use Rattle.csg_hits.specs.Surfaces.{Surfaces}
use Rattle.finish_shade.specs.declared.lit.Lit.{Lit}
use Rattle.finish_shade.specs.declared.met.Look.{Look}
use Rattle.finish_shade.specs.declared.met.Met.{Met}
use Rattle.finish_shade.specs.Amounts.{black, filtered, is_opaque, let_through}
use Rattle.finish_shade.specs.Finishes.{ambient_part, diffuse_part, highlights, light_of, plus}
use Rattle.finish_shade.specs.Lamps.{cone_factor, fading_factor}
use Rattle.finish_shade.specs.Meetings.{look_at}

abbrev pub white : List ℤ
white = row_of (λ k. pos 65536)

-- the colours of what a shadow ray meets behind a number of it and before an end, in their order; an opaque one hides all behind it
pub data AreBetween (s : Surfaces) (scene : Scene) (ray : Ray) (end : ℕ) : ℕ → List (List ℤ) → Type 0 where
  none_left : (after : ℕ) → ((t object leaf : ℕ) → IsHit s ray after true t object leaf → end ≤ t) → AreBetween s scene ray end after []
  opaque_one : (after : ℕ) (hit : Hit) (look : Look) → IsNearest s ray after true hit → hit.t < end → look_at scene ray hit ≡ Some look → is_opaque look.colour ≡ true
      → AreBetween s scene ray end after (look.colour ∷ [])
  clear_one : (after : ℕ) (hit : Hit) (look : Look) (colours : List (List ℤ)) → IsNearest s ray after true hit → hit.t < end → look_at scene ray hit ≡ Some look → is_opaque look.colour ≡ false
      → AreBetween s scene ray end hit.t colours → AreBetween s scene ray end after (look.colour ∷ colours)

-- light behind surfaces of these colours
abbrev pub light_behind : List ℤ → List (List ℤ) → List ℤ
light_behind light [] = light
light_behind light (colour ∷ colours) = if is_opaque colour then black else light_behind (filtered light (let_through colour)) colours

-- the light that passes all that a shadow ray meets before an end
pub data Passes (s : Surfaces) (scene : Scene) (ray : Ray) (end : ℕ) : List ℤ → Type 0 where
  passes : (colours : List (List ℤ)) → AreBetween s scene ray end 63 colours → Passes s scene ray end (light_behind white colours)

-- the share of a lamp's light that arrives, where the lamp is so far along a ray: all of it where it makes no shadows
pub data Arrives (s : Surfaces) (scene : Scene) (lamp : Light) (ray : Ray) (distance : ℕ) : List ℤ → Type 0 where
  whole : lamp.shadowless ≡ true → Arrives s scene lamp ray distance white
  part : (light : List ℤ) → lamp.shadowless ≡ false → Passes s scene ray distance light → Arrives s scene lamp ray distance light

-- ---- the way to a lamp

abbrev pub way_to : V3 → Light → V3
way_to from lamp = vector (λ i. along lamp.at i -ℤ along from i)

abbrev pub direction_to : V3 → Light → V3
direction_to from lamp = unit_of (way_to from lamp)

abbrev pub distance_to : V3 → Light → ℕ
distance_to from lamp = length_of (way_to from lamp)

abbrev pub ray_to : V3 → Light → Ray
ray_to from lamp = record { origin = from; dir = direction_to from lamp }

-- the cosine between the way out of a surface and the way to a lamp
abbrev pub slant_of : Met → Light → ℤ
slant_of met lamp = rounded_dot_of met.normal (direction_to met.from lamp)

-- ---- what a surface shows of lamps

-- without any
abbrev pub unlit : Scene → Met → Lit
unlit scene met = record { own = ambient_part met.look.colour met.look.finish.ambient scene.ambient_light; highlights = black }

-- a lamp's light where it arrives, by the direction to the lamp and its distance
abbrev pub arriving_light : Light → V3 → ℕ → List ℤ → List ℤ
arriving_light lamp direction distance arriving = light_of lamp.colour arriving (cone_factor lamp.spot direction) (fading_factor lamp.fade distance)

-- seen along `dir`, with light that comes from a direction, slanting by a cosine
abbrev pub shone_upon : V3 → Met → V3 → ℤ → List ℤ → Lit → Lit
shone_upon dir met direction slant light lit = record {
  own = plus lit.own (diffuse_part light met.look.colour met.look.finish.diffuse slant);
  highlights = plus lit.highlights (highlights met.look.finish dir met.normal direction light);
}

abbrev pub with_lamp : V3 → Met → Light → List ℤ → Lit → Lit
with_lamp dir met lamp arriving lit =
    let direction = direction_to met.from lamp in shone_upon dir met direction (slant_of met lamp) (arriving_light lamp direction (distance_to met.from lamp) arriving) lit

-- with each of these lamps in its turn: one on the other side of the surface adds nothing
pub data IsLit (s : Surfaces) (scene : Scene) (dir : V3) (met : Met) : Lit → List Light → Lit → Type 0 where
  all : (lit : Lit) → IsLit s scene dir met lit [] lit
  turned_away : (lit : Lit) (lamp : Light) (lamps : List Light) (result : Lit) → int_lt (pos 0) (slant_of met lamp) ≡ false → IsLit s scene dir met lit lamps result → IsLit s scene dir met lit (lamp ∷ lamps) result
  shone : (lit : Lit) (lamp : Light) (lamps : List Light) (arriving : List ℤ) (result : Lit) → int_lt (pos 0) (slant_of met lamp) ≡ true
      → Arrives s scene lamp (ray_to met.from lamp) (distance_to met.from lamp) arriving
      → IsLit s scene dir met (with_lamp dir met lamp arriving lit) lamps result → IsLit s scene dir met lit (lamp ∷ lamps) result
