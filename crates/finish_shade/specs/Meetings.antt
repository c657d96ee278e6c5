-- A surface where a ray meets it: how it looks there, the direction out of it, and the rays that go on from there.
use Rattle.std.specs.Prelude.{ℕ, ℤ, pos, ◌-◌, ◌≤◌, ◌<◌, ◌^◌, Bool, if◌then◌else◌, List, [], ◌∷◌, Option, Some, None, length, slice_get}
use Rattle.std.specs.List.{All}
use Rattle.fix_math.specs.declared.fix.V3.{V3}
use Rattle.fix_math.specs.Matrices.{IsVectorWithin}
use Rattle.fix_math.specs.Numbers.{rnd}
use Rattle.scene_model.specs.declared.scene.Scene.{Scene}
use Rattle.scene_model.specs.declared.shape.Leaf.{Leaf}
use Rattle.scene_model.specs.declared.texture.Texture.{Texture}
use Rattle.scene_model.specs.Amounts.{IsIor, IsRgb, IsRgbft}
use Rattle.scene_model.specs.Looks.{IsFinish, IsLight, IsTexture}
use Rattle.scene_model.specs.Solids.{IsLeaf}
use Rattle.scene_model.specs.Valid.{Valid}
use Rattle.pigment.specs.Pigments.{colour_of}
use Rattle.shapes.specs.declared.ray.Ray.{Ray}
use Rattle.shapes.specs.Outward.{outward_of, unit_towards}
use Rattle.shapes.specs.Rays.{Position, point_at}
use Rattle.csg_hits.specs.declared.world.Hit.{Hit}
use Rattle.csg_hits.specs.Surfaces.{solid_holds}
use Rattle.finish_shade.specs.declared.met.Look.{Look}
use Rattle.finish_shade.specs.declared.met.Met.{Met}
use Rattle.finish_shade.specs.Directions.{turned_against, thrown_back, passed_on}

abbrev pub coordinates : Position → List ℤ
coordinates p = p.x ∷ p.y ∷ p.z ∷ []

abbrev pub look_of : Option Texture → Position → Option Look
look_of None p = None
look_of (Some texture) p = Some (record { colour = colour_of texture.pigment (coordinates p); finish = texture.finish })

-- the look of a texture of the scene, by its number
abbrev pub look_in : Scene → ℕ → Position → Option Look
look_in scene n p = look_of (slice_get scene.textures.items n) p

abbrev pub leaf_look : Scene → Position → Option Leaf → Option Look
leaf_look scene p None = None
leaf_look scene p (Some leaf) = look_in scene leaf.texture p

-- how what is hit looks there
abbrev pub look_at : Scene → Ray → Hit → Option Look
look_at scene ray hit = leaf_look scene (point_at ray hit.t) (slice_get scene.leaves.items hit.leaf)

-- of two points the one at which a leaf's solid holds: by whether it holds at the second
abbrev pub inner_of : Bool → Position → Position → Position
inner_of holds p q = if holds then q else p

-- out of the solid of a leaf, where it is hit
abbrev pub leaf_outward : Leaf → Ray → Hit → V3
leaf_outward leaf ray hit =
    let q = point_at ray hit.t in unit_towards (outward_of leaf (inner_of (solid_holds leaf q) (point_at ray (hit.t - 1)) q) hit.face)

-- the raw point that is nearest to a point: rays go on from there
abbrev pub raw_point : Position → V3
raw_point p = record { x = rnd p.x (pos 65536); y = rnd p.y (pos 65536); z = rnd p.z (pos 65536) }

abbrev pub met_leaf : Ray → Hit → Leaf → Option Look → Option Met
met_leaf ray hit leaf None = None
met_leaf ray hit leaf (Some look) = Some (record {
  from = raw_point (point_at ray hit.t);
  normal = turned_against ray.dir (leaf_outward leaf ray hit);
  look = look;
  ior = leaf.ior;
  entering = hit.entering;
})

abbrev pub met_by : Scene → Ray → Hit → Option Leaf → Option Met
met_by scene ray hit None = None
met_by scene ray hit (Some leaf) = met_leaf ray hit leaf (look_in scene leaf.texture (point_at ray hit.t))

-- the surface that is hit
abbrev pub met_at : Scene → Ray → Hit → Option Met
met_at scene ray hit = met_by scene ray hit (slice_get scene.leaves.items hit.leaf)

-- the ray that a surface throws back, and the one that goes on through it
abbrev pub ray_back : Ray → Met → Ray
ray_back ray met = record { origin = met.from; dir = thrown_back ray.dir met.normal }

abbrev pub ray_on : Ray → Met → Ray
ray_on ray met = record { origin = met.from; dir = passed_on ray.dir met.normal met.entering met.ior }

-- ---- sizes

-- what shading needs of a valid scene
pub record CanShow (scene : Scene) : Type 0 where
  pub lights : All IsLight scene.lights.items
  pub few_lights : length scene.lights.items ≤ 256
  pub leaves : All IsLeaf scene.leaves.items
  pub textures : All IsTexture scene.textures.items
  pub leaf_textures : All (λ leaf. leaf.texture < length scene.textures.items) scene.leaves.items
  pub background : IsRgb scene.background
  pub ambient_light : IsRgb scene.ambient_light

pub valid_can_show : (scene : Scene) → Valid scene → CanShow scene
valid_can_show scene valid = record {
  lights = valid.lights;
  few_lights = valid.few_lights;
  leaves = valid.leaves;
  textures = valid.textures;
  leaf_textures = valid.leaf_textures;
  background = valid.background;
  ambient_light = valid.ambient_light;
}

pub record IsLook (look : Look) : Type 0 where
  pub colour : IsRgbft look.colour
  pub finish : IsFinish look.finish

pub record IsMet (met : Met) : Type 0 where
  pub from : IsVectorWithin (2 ^ 28) met.from
  pub normal : IsVectorWithin 65536 met.normal
  pub look : IsLook met.look
  pub ior : IsIor met.ior
