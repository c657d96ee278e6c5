-- In scenes that look alike a ray shows the same, and one colour at most.
use Rattle.std.proofs.Common.{ℕ, suc, ◌<◌, ◌≤◌, ◌≡◌, true, false, List, [], ◌∷◌, ℤ, Some, refl, ap, sym, subst, ◌∙◌, arith}
use Rattle.std.proofs.lemmas.Bool.{false≢true}
use Rattle.fix_math.specs.declared.fix.V3.{V3}
use Rattle.scene_model.specs.declared.light.Light.{Light}
use Rattle.scene_model.specs.declared.scene.Scene.{Scene}
use Rattle.shapes.specs.declared.ray.Ray.{Ray}
use Rattle.csg_hits.specs.declared.world.Hit.{Hit}
use Rattle.csg_hits.specs.Hits.{IsHit, IsNearest}
use Rattle.csg_hits.specs.Surfaces.{Surfaces}
use Rattle.finish_shade.specs.declared.lit.Lit.{Lit}
use Rattle.finish_shade.specs.declared.met.Look.{Look}
use Rattle.finish_shade.specs.declared.met.Met.{Met}
use Rattle.finish_shade.specs.Alike.{LookAlike, solids_of}
use Rattle.finish_shade.specs.Amounts.{black, is_opaque, is_weak, let_through, weight_of}
use Rattle.finish_shade.specs.Finishes.{ambient_part}
use Rattle.finish_shade.specs.Arrivals.{AreBetween, Arrives, IsLit, Passes, distance_to, light_behind, ray_to, unlit, white, with_lamp}
use Rattle.finish_shade.specs.Meetings.{look_at, met_at, ray_back, ray_on}
use Rattle.finish_shade.specs.Shades.{IsShade, shown_by}
use Rattle.finish_shade.proofs.AlikeHits.{alike_hit, alike_look, alike_met, alike_nearest, one_nearest, turned}

-- ---- from one scene to another

alike_between : (a b : Scene) → LookAlike a b → (ray : Ray) (end after : ℕ) (colours : List (List ℤ)) → AreBetween (solids_of a) a ray end after colours → AreBetween (solids_of b) b ray end after colours
alike_between a b h ray end after _ (AreBetween.none_left _ free) =
    AreBetween.none_left after (λ t object leaf k. free t object leaf (alike_hit b a (turned a b h) ray after true t object leaf k))
alike_between a b h ray end after _ (AreBetween.opaque_one _ hit look near lt at dark) =
    AreBetween.opaque_one after hit look (alike_nearest a b h ray after true hit near) lt (sym (alike_look a b h ray hit) ∙ at) dark
alike_between a b h ray end after _ (AreBetween.clear_one _ hit look colours near lt at clear rest) =
    AreBetween.clear_one after hit look colours (alike_nearest a b h ray after true hit near) lt (sym (alike_look a b h ray hit) ∙ at) clear (alike_between a b h ray end hit.t colours rest)

alike_arrives : (a b : Scene) → LookAlike a b → (lamp : Light) (ray : Ray) (distance : ℕ) (light : List ℤ) → Arrives (solids_of a) a lamp ray distance light → Arrives (solids_of b) b lamp ray distance light
alike_arrives a b h lamp ray distance _ (Arrives.whole is) = Arrives.whole is
alike_arrives a b h lamp ray distance _ (Arrives.part _ is (Passes.passes colours between)) = Arrives.part _ is (Passes.passes colours (alike_between a b h ray distance 63 colours between))

alike_lit : (a b : Scene) → LookAlike a b → (dir : V3) (met : Met) (start : Lit) (lamps : List Light) (all : Lit) → IsLit (solids_of a) a dir met start lamps all → IsLit (solids_of b) b dir met start lamps all
alike_lit a b h dir met start _ _ (IsLit.all _) = IsLit.all start
alike_lit a b h dir met start _ all (IsLit.turned_away _ lamp lamps _ away rest) = IsLit.turned_away start lamp lamps all away (alike_lit a b h dir met start lamps all rest)
alike_lit a b h dir met start _ all (IsLit.shone _ lamp lamps arriving _ towards arrives rest) =
    IsLit.shone start lamp lamps arriving all towards (alike_arrives a b h lamp (ray_to met.from lamp) (distance_to met.from lamp) arriving arrives) (alike_lit a b h dir met (with_lamp dir met lamp arriving start) lamps all rest)

lit_alike : (a b : Scene) → LookAlike a b → (dir : V3) (met : Met) (lit : Lit) → IsLit (solids_of a) a dir met (unlit a met) a.lights.items lit → IsLit (solids_of b) b dir met (unlit b met) b.lights.items lit
lit_alike a b h dir met lit k =
    let P : List ℤ → Type 0 = λ light. IsLit (solids_of b) b dir met (record { own = ambient_part met.look.colour met.look.finish.ambient light; highlights = black }) b.lights.items lit in
    let Q : List Light → Type 0 = λ lamps. IsLit (solids_of b) b dir met (unlit a met) lamps lit in
    subst P h.ambient_light (subst Q h.lights (alike_lit a b h dir met (unlit a met) a.lights.items lit k))

pub alike_shade : (a b : Scene) → LookAlike a b → (levels : ℕ) (ray : Ray) (weight : ℤ) (colour : List ℤ) → IsShade (solids_of a) a levels ray weight colour → IsShade (solids_of b) b levels ray weight colour
alike_shade a b h _ ray weight _ (IsShade.spent _ _) = IsShade.spent ray weight
alike_shade a b h levels ray weight _ (IsShade.weak _ _ _ is) = let P : ℤ → Type 0 = λ adc. is_weak adc weight ≡ true in IsShade.weak levels ray weight (subst P h.adc is)
alike_shade a b h _ ray weight _ (IsShade.missed levels _ _ is free) =
    let P : ℤ → Type 0 = λ adc. is_weak adc weight ≡ false in
    let Q : List ℤ → Type 0 = λ c. IsShade (solids_of b) b (suc levels) ray weight c in
    subst Q (sym h.background)
    (IsShade.missed levels ray weight (subst P h.adc is) (λ t object leaf k. free t object leaf (alike_hit b a (turned a b h) ray 63 false t object leaf k)))
alike_shade a b h _ ray weight _ (IsShade.struck levels _ _ hit met lit thrown passed is near at lights back on) =
    let P : ℤ → Type 0 = λ adc. is_weak adc weight ≡ false in
    IsShade.struck levels ray weight hit met lit thrown passed (subst P h.adc is) (alike_nearest a b h ray 63 false hit near) (sym (alike_met a b h ray hit) ∙ at) (lit_alike a b h ray.dir met lit lights)
    (alike_shade a b h levels (ray_back ray met) (weight_of weight met.look.finish.reflection) thrown back)
    (alike_shade a b h levels (ray_on ray met) (weight_of weight (let_through met.look.colour)) passed on)

-- ---- one colour in one scene

same_look : (scene : Scene) (ray : Ray) (g h : Hit) (look other : Look) → g ≡ h → look_at scene ray g ≡ Some look → look_at scene ray h ≡ Some other → look ≡ other
same_look scene ray g h look other e p q = let both : Some look ≡ Some other = sym p ∙ (ap (look_at scene ray) e ∙ q) in cc both

same_met : (scene : Scene) (ray : Ray) (g h : Hit) (met other : Met) → g ≡ h → met_at scene ray g ≡ Some met → met_at scene ray h ≡ Some other → met ≡ other
same_met scene ray g h met other e p q = let both : Some met ≡ Some other = sym p ∙ (ap (met_at scene ray) e ∙ q) in cc both

opaque_or_clear : (look other : Look) → look ≡ other → is_opaque look.colour ≡ true → is_opaque other.colour ≡ false → ⊥
opaque_or_clear look other e dark clear = false≢true (sym clear ∙ (ap (λ (l : Look). is_opaque l.colour) (sym e) ∙ dark))

not_free : (s : Surfaces) (ray : Ray) (end after : ℕ) (hit : Hit) → ((t object leaf : ℕ) → IsHit s ray after true t object leaf → end ≤ t) → IsNearest s ray after true hit → hit.t < end → ⊥
not_free s ray end after hit free near lt = let le = free hit.t hit.object hit.leaf near.found in omega arith

one_between : (s : Surfaces) (scene : Scene) (ray : Ray) (end after : ℕ) (cs ds : List (List ℤ)) → AreBetween s scene ray end after cs → AreBetween s scene ray end after ds → cs ≡ ds
one_between s scene ray end after _ _ (AreBetween.none_left _ free) (AreBetween.none_left _ free') = refl
one_between s scene ray end after _ _ (AreBetween.none_left _ free) (AreBetween.opaque_one _ hit look near lt at dark) = absurd (not_free s ray end after hit free near lt)
one_between s scene ray end after _ _ (AreBetween.none_left _ free) (AreBetween.clear_one _ hit look colours near lt at clear rest) = absurd (not_free s ray end after hit free near lt)
one_between s scene ray end after _ _ (AreBetween.opaque_one _ hit look near lt at dark) (AreBetween.none_left _ free) = absurd (not_free s ray end after hit free near lt)
one_between s scene ray end after _ _ (AreBetween.opaque_one _ hit look near lt at dark) (AreBetween.opaque_one _ hit' look' near' lt' at' dark') =
    ap (λ (l : Look). l.colour ∷ []) (same_look scene ray hit hit' look look' (one_nearest s ray after true hit hit' near near') at at')
one_between s scene ray end after _ _ (AreBetween.opaque_one _ hit look near lt at dark) (AreBetween.clear_one _ hit' look' colours near' lt' at' clear rest) =
    absurd (opaque_or_clear look look' (same_look scene ray hit hit' look look' (one_nearest s ray after true hit hit' near near') at at') dark clear)
one_between s scene ray end after _ _ (AreBetween.clear_one _ hit look colours near lt at clear rest) (AreBetween.none_left _ free) = absurd (not_free s ray end after hit free near lt)
one_between s scene ray end after _ _ (AreBetween.clear_one _ hit look colours near lt at clear rest) (AreBetween.opaque_one _ hit' look' near' lt' at' dark) =
    absurd (opaque_or_clear look' look (same_look scene ray hit' hit look' look (one_nearest s ray after true hit' hit near' near) at' at) dark clear)
one_between s scene ray end after _ _ (AreBetween.clear_one _ hit look colours near lt at clear rest) (AreBetween.clear_one _ hit' look' colours' near' lt' at' clear' rest') =
    let hits : hit ≡ hit' = one_nearest s ray after true hit hit' near near' in
    let P : Hit → Type 0 = λ h. AreBetween s scene ray end h.t colours' in
    let same : colours ≡ colours' = one_between s scene ray end hit.t colours colours' rest (subst P (sym hits) rest') in
    ap (λ (l : Look). l.colour ∷ colours) (same_look scene ray hit hit' look look' hits at at') ∙ ap (λ cs. look'.colour ∷ cs) same

one_arrives : (s : Surfaces) (scene : Scene) (lamp : Light) (ray : Ray) (distance : ℕ) (c d : List ℤ) → Arrives s scene lamp ray distance c → Arrives s scene lamp ray distance d → c ≡ d
one_arrives s scene lamp ray distance _ _ (Arrives.whole is) (Arrives.whole is') = refl
one_arrives s scene lamp ray distance _ _ (Arrives.whole is) (Arrives.part _ not _) = absurd (false≢true (sym not ∙ is))
one_arrives s scene lamp ray distance _ _ (Arrives.part _ not _) (Arrives.whole is) = absurd (false≢true (sym not ∙ is))
one_arrives s scene lamp ray distance _ _ (Arrives.part _ not (Passes.passes cs p)) (Arrives.part _ not' (Passes.passes ds q)) = ap (light_behind white) (one_between s scene ray distance 63 cs ds p q)

one_lit : (s : Surfaces) (scene : Scene) (dir : V3) (met : Met) (start : Lit) (lamps : List Light) (g h : Lit) → IsLit s scene dir met start lamps g → IsLit s scene dir met start lamps h → g ≡ h
one_lit s scene dir met start _ _ _ (IsLit.all _) (IsLit.all _) = refl
one_lit s scene dir met start _ g h (IsLit.turned_away _ lamp lamps _ away p) (IsLit.turned_away _ _ _ _ away' q) = one_lit s scene dir met start lamps g h p q
one_lit s scene dir met start _ g h (IsLit.turned_away _ lamp lamps _ away p) (IsLit.shone _ _ _ arriving _ towards arrives q) = absurd (false≢true (sym away ∙ towards))
one_lit s scene dir met start _ g h (IsLit.shone _ lamp lamps arriving _ towards arrives p) (IsLit.turned_away _ _ _ _ away q) = absurd (false≢true (sym away ∙ towards))
one_lit s scene dir met start _ g h (IsLit.shone _ lamp lamps arriving _ towards arrives p) (IsLit.shone _ _ _ arriving' _ towards' arrives' q) =
    let same : arriving' ≡ arriving = one_arrives s scene lamp (ray_to met.from lamp) (distance_to met.from lamp) arriving' arriving arrives' arrives in
    let P : List ℤ → Type 0 = λ light. IsLit s scene dir met (with_lamp dir met lamp light start) lamps h in
    one_lit s scene dir met (with_lamp dir met lamp arriving start) lamps g h p (subst P same q)

one_shown : (met other : Met) (lit lit' : Lit) (thrown thrown' passed passed' : List ℤ) → met ≡ other → lit ≡ lit' → thrown ≡ thrown' → passed ≡ passed' → shown_by met lit thrown passed ≡ shown_by other lit' thrown' passed'
one_shown met other lit lit' thrown thrown' passed passed' m l t p =
    ap (λ (x : Met). shown_by x lit thrown passed) m ∙ (ap (λ (x : Lit). shown_by other x thrown passed) l ∙ (ap (λ (x : List ℤ). shown_by other lit' x passed) t ∙ ap (λ (x : List ℤ). shown_by other lit' thrown' x) p))

not_missed : (s : Surfaces) (ray : Ray) (hit : Hit) → ((t object leaf : ℕ) → ¬ IsHit s ray 63 false t object leaf) → IsNearest s ray 63 false hit → ⊥
not_missed s ray hit free near = free hit.t hit.object hit.leaf near.found

one_colour : (s : Surfaces) (scene : Scene) (levels : ℕ) (ray : Ray) (weight : ℤ) (c d : List ℤ) → IsShade s scene levels ray weight c → IsShade s scene levels ray weight d → c ≡ d
one_colour s scene _ ray weight _ _ (IsShade.spent _ _) (IsShade.spent _ _) = refl
one_colour s scene _ ray weight _ _ (IsShade.spent _ _) (IsShade.weak _ _ _ _) = refl
one_colour s scene _ ray weight _ _ (IsShade.weak _ _ _ _) (IsShade.spent _ _) = refl
one_colour s scene _ ray weight _ _ (IsShade.weak _ _ _ _) (IsShade.weak _ _ _ _) = refl
one_colour s scene _ ray weight _ _ (IsShade.weak _ _ _ is) (IsShade.missed _ _ _ not _) = absurd (false≢true (sym not ∙ is))
one_colour s scene _ ray weight _ _ (IsShade.weak _ _ _ is) (IsShade.struck _ _ _ _ _ _ _ _ not _ _ _ _ _) = absurd (false≢true (sym not ∙ is))
one_colour s scene _ ray weight _ _ (IsShade.missed _ _ _ not _) (IsShade.weak _ _ _ is) = absurd (false≢true (sym not ∙ is))
one_colour s scene _ ray weight _ _ (IsShade.missed _ _ _ _ _) (IsShade.missed _ _ _ _ _) = refl
one_colour s scene _ ray weight _ _ (IsShade.missed _ _ _ _ free) (IsShade.struck _ _ _ hit _ _ _ _ _ near _ _ _ _) = absurd (not_missed s ray hit free near)
one_colour s scene _ ray weight _ _ (IsShade.struck _ _ _ _ _ _ _ _ not _ _ _ _ _) (IsShade.weak _ _ _ is) = absurd (false≢true (sym not ∙ is))
one_colour s scene _ ray weight _ _ (IsShade.struck _ _ _ hit _ _ _ _ _ near _ _ _ _) (IsShade.missed _ _ _ _ free) = absurd (not_missed s ray hit free near)
one_colour s scene _ ray weight _ _ (IsShade.struck levels _ _ hit met lit thrown passed _ near at lights back on) (IsShade.struck _ _ _ hit' met' lit' thrown' passed' _ near' at' lights' back' on') =
    let hits : hit' ≡ hit = one_nearest s ray 63 false hit' hit near' near in
    let mets : met' ≡ met = same_met scene ray hit' hit met' met hits at' at in
    let P : Met → Type 0 = λ m. IsLit s scene ray.dir m (unlit scene m) scene.lights.items lit' in
    let Q : Met → Type 0 = λ m. IsShade s scene levels (ray_back ray m) (weight_of weight m.look.finish.reflection) thrown' in
    let R : Met → Type 0 = λ m. IsShade s scene levels (ray_on ray m) (weight_of weight (let_through m.look.colour)) passed' in
    one_shown met met' lit lit' thrown thrown' passed passed' (sym mets)
    (one_lit s scene ray.dir met (unlit scene met) scene.lights.items lit lit' lights (subst P mets lights'))
    (one_colour s scene levels (ray_back ray met) (weight_of weight met.look.finish.reflection) thrown thrown' back (subst Q mets back'))
    (one_colour s scene levels (ray_on ray met) (weight_of weight (let_through met.look.colour)) passed passed' on (subst R mets on'))

pub one_shade : (a b : Scene) → LookAlike a b → (levels : ℕ) (ray : Ray) (weight : ℤ) (c d : List ℤ) → IsShade (solids_of a) a levels ray weight c → IsShade (solids_of b) b levels ray weight d → c ≡ d
one_shade a b h levels ray weight c d p q = one_colour (solids_of b) b levels ray weight c d (alike_shade a b h levels ray weight c p) q
