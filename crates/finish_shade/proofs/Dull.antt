-- What a surface shows that lamps add nothing to, whatever of their light arrives.
use Rattle.std.proofs.Common.{◌≡◌, ℤ, pos, ◌+ℤ◌, Bool, true, false, ◌&&◌, int_lt, List, [], ◌∷◌, refl, ap, sym, subst, ◌∙◌, arith}
use Rattle.std.specs.Ordering.{int_eq}
use Rattle.std.proofs.lemmas.Bool.{and_parts}
use Rattle.std.proofs.lemmas.Bool.Decides.{Decides-int_eq}
use Rattle.std.proofs.lemmas.Int.{ints}
use Rattle.fix_math.specs.declared.fix.V3.{V3}
use Rattle.fix_math.specs.Matrices.{component}
use Rattle.fix_math.specs.Numbers.{product_of}
use Rattle.scene_model.specs.declared.light.Light.{Light}
use Rattle.scene_model.specs.declared.scene.Scene.{Scene}
use Rattle.scene_model.specs.declared.texture.Finish.{Finish}
use Rattle.csg_hits.specs.Surfaces.{Surfaces}
use Rattle.finish_shade.specs.declared.lit.Lit.{Lit}
use Rattle.finish_shade.specs.declared.met.Met.{Met}
use Rattle.finish_shade.specs.Alone.{is_dull}
use Rattle.finish_shade.specs.Amounts.{black}
use Rattle.finish_shade.specs.Arrivals.{IsLit, arriving_light, direction_to, distance_to, ray_to, shone_upon, slant_of, unlit}
use Rattle.finish_shade.specs.Finishes.{brightness, diffuse_part, highlight, highlights, phong_cosine, plus, product4, specular_cosine}
use Rattle.finish_shade.specs.Meetings.{CanShow}
use Rattle.finish_shade.proofs.Arrived.{some_light}
use Rattle.finish_shade.proofs.Crossed.{solids}
use Rattle.finish_shade.proofs.Smooth.{dark, product_zero, zero_product}

pub record IsDull (finish : Finish) : Type 0 where
  pub diffuse : finish.diffuse ≡ pos 0
  pub phong : finish.phong ≡ pos 0
  pub specular : finish.specular ≡ pos 0

none_of : (z : ℤ) → int_eq z (pos 0) ≡ true → z ≡ pos 0
none_of z h = (Decides-int_eq z (pos 0)).0 h

pub dull_parts : (finish : Finish) → is_dull finish ≡ true → IsDull finish
dull_parts finish h =
    let p = and_parts (int_eq finish.diffuse (pos 0)) (int_eq finish.phong (pos 0) && int_eq finish.specular (pos 0)) h in
    let q = and_parts (int_eq finish.phong (pos 0)) (int_eq finish.specular (pos 0)) p.1 in
    record { diffuse = none_of finish.diffuse p.0; phong = none_of finish.phong q.0; specular = none_of finish.specular q.1 }

-- ---- nothing is added

unscattered_channel : (x c diffuse d : ℤ) → diffuse ≡ pos 0 → pos 0 ≡ product4 x c diffuse d
unscattered_channel x c diffuse d e =
    let P : ℤ → Type 0 = λ a. pos 0 ≡ product4 x c a d in
    subst P (sym e) (sym (ap (λ (z : ℤ). product_of z d) (product_zero (product_of x c)) ∙ zero_product d))

unscattered : (light colour : List ℤ) (diffuse d : ℤ) → diffuse ≡ pos 0 → black ≡ diffuse_part light colour diffuse d
unscattered light colour diffuse d e =
    rw (← unscattered_channel (component light 0) (component colour 0) diffuse d e, ← unscattered_channel (component light 1) (component colour 1) diffuse d e, ← unscattered_channel (component light 2) (component colour 2) diffuse d e) refl

unhighlighted : (finish : Finish) (d n ld : V3) (light : List ℤ) → IsDull finish → black ≡ highlights finish d n ld light
unhighlighted finish d n ld light dull =
    let phong = brightness (phong_cosine d n ld) finish.phong_size in
    let specular = brightness (specular_cosine d n ld) finish.gloss in
    ap (λ (c : List ℤ). plus c black) (dark light finish.phong phong dull.phong)
    ∙ ap (λ (c : List ℤ). plus (highlight light finish.phong phong) c) (dark light finish.specular specular dull.specular)

no_more : (z : ℤ) → z +ℤ pos 0 ≡ z
no_more z = omega (arith, ints)

plus_none : (x y z : ℤ) → plus (x ∷ y ∷ z ∷ []) black ≡ x ∷ y ∷ z ∷ []
plus_none x y z = rw (no_more x, no_more y, no_more z) refl

-- a surface that shows this of its own
abbrev own_light : ℤ → ℤ → ℤ → Lit
own_light x y z = record { own = x ∷ y ∷ z ∷ []; highlights = black }

unmoved : (dir : V3) (met : Met) (direction : V3) (slant : ℤ) (light : List ℤ) (x y z : ℤ) → IsDull met.look.finish → own_light x y z ≡ shone_upon dir met direction slant light (own_light x y z)
unmoved dir met direction slant light x y z dull =
    let shining = highlights met.look.finish dir met.normal direction light in
    let of : List ℤ → List ℤ → Lit = λ a b. record { own = a; highlights = plus black b } in
    ap (λ (c : List ℤ). of c black) (sym (plus_none x y z))
    ∙ ap (λ (c : List ℤ). of (plus (x ∷ y ∷ z ∷ []) c) black) (unscattered light met.look.colour met.look.finish.diffuse slant dull.diffuse)
    ∙ ap (λ (c : List ℤ). of (plus (x ∷ y ∷ z ∷ []) (diffuse_part light met.look.colour met.look.finish.diffuse slant)) c) (unhighlighted met.look.finish dir met.normal direction light dull)

-- ---- by all lamps

lamp_adds_nothing : (scene : Scene) → CanShow scene → (dir : V3) (met : Met) (x y z : ℤ) (lamp : Light) (lamps : List Light) → IsDull met.look.finish → (turned : Bool) → int_lt (pos 0) (slant_of met lamp) ≡ turned
    → IsLit (solids scene) scene dir met (own_light x y z) lamps (own_light x y z) → IsLit (solids scene) scene dir met (own_light x y z) (lamp ∷ lamps) (own_light x y z)
lamp_adds_nothing scene can dir met x y z lamp lamps dull false away h = IsLit.turned_away (own_light x y z) lamp lamps (own_light x y z) away h
lamp_adds_nothing scene can dir met x y z lamp lamps dull true towards h =
    let light = some_light scene can lamp (ray_to met.from lamp) (distance_to met.from lamp) in
    let P : Lit → Type 0 = λ lit. IsLit (solids scene) scene dir met lit lamps (own_light x y z) in
    IsLit.shone (own_light x y z) lamp lamps light.0 (own_light x y z) towards light.1
    (subst P (unmoved dir met (direction_to met.from lamp) (slant_of met lamp) (arriving_light lamp (direction_to met.from lamp) (distance_to met.from lamp) light.0) x y z dull) h)

lamps_add_nothing : (scene : Scene) → CanShow scene → (dir : V3) (met : Met) (x y z : ℤ) (lamps : List Light) → IsDull met.look.finish → IsLit (solids scene) scene dir met (own_light x y z) lamps (own_light x y z)
lamps_add_nothing scene can dir met x y z [] dull = IsLit.all (own_light x y z)
lamps_add_nothing scene can dir met x y z (lamp ∷ lamps) dull =
    lamp_adds_nothing scene can dir met x y z lamp lamps dull (int_lt (pos 0) (slant_of met lamp)) refl (lamps_add_nothing scene can dir met x y z lamps dull)

-- a dull surface shows the same of any lamps as without
pub unlit_by_all : (s : Surfaces) (scene : Scene) (dir : V3) (met : Met) (lamps : List Light) → s ≡ solids scene → CanShow scene → is_dull met.look.finish ≡ true → IsLit s scene dir met (unlit scene met) lamps (unlit scene met)
unlit_by_all s scene dir met lamps stands can dull =
    let own = unlit scene met in
    let P : Surfaces → Type 0 = λ x. IsLit x scene dir met own lamps own in
    subst P (sym stands) (lamps_add_nothing scene can dir met (component own.own 0) (component own.own 1) (component own.own 2) lamps (dull_parts met.look.finish dull))
