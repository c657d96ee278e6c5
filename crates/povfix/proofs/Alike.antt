-- Scenes that are seen alike look alike to every ray.
use Rattle.std.proofs.Common.{◌≡◌, ℕ, ◌-◌, Bool, ◌&&◌, Option, Some, None, List, [], ◌∷◌, length, map, refl, ap, sym, subst, ◌∙◌}
use Rattle.std.specs.Prelude.{ℤ, if◌then◌else◌, slice_get, slice_index_or, option_map}
use Rattle.std.proofs.lemmas.List.{length-map}
use Rattle.std.proofs.lemmas.Option.{slice_get-map}
use Rattle.scene_model.specs.declared.scene.Object.{Object}
use Rattle.scene_model.specs.declared.scene.Scene.{Scene}
use Rattle.fix_math.specs.declared.fix.V3.{V3}
use Rattle.scene_model.specs.declared.shape.Leaf.{Leaf}
use Rattle.scene_model.specs.declared.texture.Pattern.{Pattern}
use Rattle.scene_model.specs.declared.texture.Texture.{Texture}
use Rattle.scene_model.specs.declared.shape.Shape.{Shape}
use Rattle.scene_model.specs.declared.shape.Shape.TheOpen.{Shape-F}
use Rattle.scene_model.specs.declared.shape.Shape.TheViews.{roll-Shape}
use Rattle.scene_model.specs.declared.shape.Shape.TheFolds.{fold-roll-Shape, ind-Shape, map-Shape}
use Rattle.object_items.specs.Trees.{Tree, Trees, tree_of, tree_step, trees_of}
use Rattle.scene_parser.specs.Seen.{ObjectView, SceneView, object_view, scene_seen}
use Rattle.shapes.specs.declared.ray.Ray.{Ray}
use Rattle.shapes.specs.Rays.{Position}
use Rattle.csg_hits.specs.Sides.{Crossing, Sides, as_group, leaf_sides, sides, sides_step, together}
use Rattle.csg_hits.specs.Surfaces.{Surfaces, counts, is_struck, leaf_on, object_strikes, struck_of}
use Rattle.item_blocks.specs.Made.{TextureView, PatternView, pattern_seen, texture_seen}
use Rattle.pigment.specs.Cells.{checker_place, past_edge, shows_mortar, hexagon_place}
use Rattle.pigment.specs.Maps.{gradient_at, map_colour}
use Rattle.pigment.specs.Pigments.{colour_of, pattern_colour}
use Rattle.pigment.specs.Spaces.{in_pattern}
use Rattle.finish_shade.specs.Alike.{LookAlike, solids_of}
use Rattle.finish_shade.specs.declared.met.Look.{Look}
use Rattle.finish_shade.specs.Meetings.{coordinates, look_in, look_of}

-- ---- what a shape is, by the tree that is seen of it

mutual
  tree_sides : (ℕ → Crossing) → Tree → Sides
  tree_sides leaf (Tree.leaf n) = leaf_sides n (leaf n)
  tree_sides leaf (Tree.group op parts inverse) = as_group op inverse (together op (trees_sides leaf parts))

  trees_sides : (ℕ → Crossing) → Trees → List Sides
  trees_sides leaf Trees.none = []
  trees_sides leaf (Trees.further tree trees) = tree_sides leaf tree ∷ trees_sides leaf trees

abbrev IsSeen : (ℕ → Crossing) → Shape → Type 0
IsSeen leaf shape = sides leaf shape ≡ tree_sides leaf (tree_of shape)

parts_seen : (leaf : ℕ → Crossing) (xs : List ((s : Shape) × IsSeen leaf s)) → map (sides leaf) (map (λ e. e.0) xs) ≡ trees_sides leaf (trees_of (map tree_of (map (λ e. e.0) xs)))
unfolding trees_sides
parts_seen leaf [] = refl
parts_seen leaf (e ∷ es) =
    ap (λ first. first ∷ map (sides leaf) (map (λ e. e.0) es)) e.1
    ∙ ap (λ rest. tree_sides leaf (tree_of e.0) ∷ rest) (parts_seen leaf es)

layer_seen : (leaf : ℕ → Crossing) (y : Shape-F ((s : Shape) × IsSeen leaf s)) → IsSeen leaf (roll-Shape (map-Shape _ Shape (λ e. e.0) y))
unfolding tree_sides
layer_seen leaf (Shape-F.Leaf n) =
    fold-roll-Shape Sides (sides_step leaf) (Shape-F.Leaf n) ∙ ap (tree_sides leaf) (sym (fold-roll-Shape Tree tree_step (Shape-F.Leaf n)))
layer_seen leaf (Shape-F.Group op parts inverse) =
    let whole : Shape-F Shape = map-Shape _ Shape (λ e. e.0) (Shape-F.Group op parts inverse) in
    fold-roll-Shape Sides (sides_step leaf) whole
    ∙ ap (λ all. as_group op inverse (together op all)) (parts_seen leaf parts.items)
    ∙ ap (tree_sides leaf) (sym (fold-roll-Shape Tree tree_step whole))

seen : (leaf : ℕ → Crossing) (shape : Shape) → IsSeen leaf shape
seen leaf = ind-Shape (IsSeen leaf) (λ x y is. subst (λ z. IsSeen leaf (roll-Shape z)) is (layer_seen leaf y))

shape_alike : (leaf : ℕ → Crossing) (a b : Shape) → tree_of a ≡ tree_of b → sides leaf a ≡ sides leaf b
shape_alike leaf a b same = seen leaf a ∙ ap (tree_sides leaf) same ∙ sym (seen leaf b)

-- ---- objects by their numbers

object_alike : (leaves : List Leaf) (ray : Ray) (shadow : Bool) (t leaf : ℕ) (a b : Object) → object_view a ≡ object_view b → object_strikes leaves ray shadow a t leaf ≡ object_strikes leaves ray shadow b t leaf
object_alike leaves ray shadow t leaf a b same =
    ap (λ (o : ObjectView). counts shadow o.no_shadow && (sides (leaf_on leaves ray t) a.shape).strikes leaf) same
    ∙ ap (λ (s : Sides). counts shadow b.no_shadow && s.strikes leaf) (shape_alike (leaf_on leaves ray t) a.shape b.shape (ap (λ (o : ObjectView). o.tree) same))

struck_case : (s r : Surfaces) → s.leaves ≡ r.leaves → s.sheets ≡ r.sheets → (ray : Ray) (shadow : Bool) (t i leaf : ℕ) (a b : Option Object) → option_map object_view a ≡ option_map object_view b → struck_of s ray shadow t i leaf a ≡ struck_of r ray shadow t i leaf b
struck_case s r leaves sheets ray shadow t i leaf None None same =
    ap (λ l. struck_of (record { leaves = l; objects = s.objects; sheets = s.sheets }) ray shadow t i leaf None) leaves
    ∙ ap (λ h. struck_of (record { leaves = r.leaves; objects = s.objects; sheets = h }) ray shadow t i leaf None) sheets
struck_case s r leaves sheets ray shadow t i leaf (Some a) (Some b) same =
    ap (λ l. object_strikes l ray shadow a t leaf) leaves ∙ object_alike r.leaves ray shadow t leaf a b (cc same)
struck_case s r leaves sheets ray shadow t i leaf None (Some b) same = absurd (cc same)
struck_case s r leaves sheets ray shadow t i leaf (Some a) None same = absurd (cc same)

object_at : (xs ys : List Object) (n : ℕ) → map object_view xs ≡ map object_view ys → option_map object_view (slice_get xs n) ≡ option_map object_view (slice_get ys n)
object_at xs ys n same = sym (slice_get-map object_view xs n) ∙ ap (λ zs. slice_get zs n) same ∙ slice_get-map object_view ys n

same_count : (xs ys : List Object) → map object_view xs ≡ map object_view ys → length xs ≡ length ys
same_count xs ys same = sym (length-map xs object_view) ∙ ap length same ∙ length-map ys object_view

struck_alike : (s r : Surfaces) → s.leaves ≡ r.leaves → s.sheets ≡ r.sheets → map object_view s.objects ≡ map object_view r.objects → (ray : Ray) (shadow : Bool) (t object leaf : ℕ) → is_struck s ray shadow t object leaf ≡ is_struck r ray shadow t object leaf
struck_alike s r leaves sheets objects ray shadow t object leaf =
    ap (λ count. struck_of s ray shadow t (object - count) leaf (slice_get s.objects object)) (same_count s.objects r.objects objects)
    ∙ struck_case s r leaves sheets ray shadow t (object - length r.objects) leaf (slice_get s.objects object) (slice_get r.objects object) (object_at s.objects r.objects object objects)

-- ---- textures by what is seen of them

view_colour : PatternView → V3 → List ℤ
view_colour (PatternView.Plain colour) q = colour
view_colour (PatternView.Checker colours) q = slice_index_or colours (checker_place q) []
view_colour (PatternView.Brick mortar brick size width) q = if shows_mortar width size (past_edge q) then mortar else brick
view_colour (PatternView.Hexagon colours) q = slice_index_or colours (hexagon_place q) []
view_colour (PatternView.Gradient axis map) q = map_colour map (gradient_at axis q)

pattern_alike : (pattern : Pattern) (q : V3) → pattern_colour pattern q ≡ view_colour (pattern_seen pattern) q
unfolding view_colour
pattern_alike (Pattern.Plain colour) q = refl
pattern_alike (Pattern.Checker colours) q = refl
pattern_alike (Pattern.Brick mortar brick size width) q = refl
pattern_alike (Pattern.Hexagon colours) q = refl
pattern_alike (Pattern.Gradient axis map) q = refl

-- how a texture of this view looks at a point
view_look : Option TextureView → Position → Option Look
view_look None p = None
view_look (Some view) p = Some (record { colour = view_colour view.pattern (in_pattern view.xform (coordinates p)); finish = view.finish })

texture_look : (texture : Option Texture) (p : Position) → look_of texture p ≡ view_look (option_map texture_seen texture) p
unfolding colour_of view_look
texture_look None p = refl
texture_look (Some texture) p =
    ap (λ c. Some (record { colour = c; finish = texture.finish })) (pattern_alike texture.pigment.pattern (in_pattern texture.pigment.xform (coordinates p)))

look_alike_in : (a b : Scene) → map texture_seen a.textures.items ≡ map texture_seen b.textures.items → (n : ℕ) (p : Position) → look_in a n p ≡ look_in b n p
look_alike_in a b same n p =
    texture_look (slice_get a.textures.items n) p
    ∙ ap (λ view. view_look view p) (sym (slice_get-map texture_seen a.textures.items n) ∙ ap (λ views. slice_get views n) same ∙ slice_get-map texture_seen b.textures.items n)
    ∙ sym (texture_look (slice_get b.textures.items n) p)

-- ---- scenes

pub look_alike : (a b : Scene) → scene_seen a ≡ scene_seen b → LookAlike a b
look_alike a b same = record {
  leaves = ap (λ (v : SceneView). v.leaves) same;
  lights = ap (λ (v : SceneView). v.lights) same;
  struck = struck_alike (solids_of a) (solids_of b) (ap (λ (v : SceneView). v.leaves) same) refl (ap (λ (v : SceneView). v.objects) same);
  looks = look_alike_in a b (ap (λ (v : SceneView). v.textures) same);
  background = ap (λ (v : SceneView). v.background) same;
  ambient_light = ap (λ (v : SceneView). v.ambient_light) same;
  levels = ap (λ (v : SceneView). v.levels) same;
  adc = ap (λ (v : SceneView). v.adc) same;
}
