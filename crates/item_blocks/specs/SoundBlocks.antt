-- Each kind of block keeps what is sound, by its parts.
use Rattle.std.specs.Prelude.{◌≡◌, ℕ, suc, ◌+◌, ◌-◌, ◌*◌, ◌^◌, ◌≤◌, ◌<◌, ◌≤ℤ◌, ℤ, pos, negsuc, Bool, true, false, nat_eq, nat_lt, max, List, [], ◌∷◌, ◌++◌, length, slice_index_or, slice_get, if◌then◌else◌, Option, Some, None, Result, Ok, Err, IfOk, IfSome, unsigned_abs, refl}
use Rattle.std.specs.List.{All, AllPairs}
use Rattle.std.proofs.Common.{subst, sym, ap, ◌∙◌, arith}
use Rattle.std.proofs.lemmas.Int.{ints}
use Rattle.std.proofs.lemmas.Bool.Decides.{nat_tests}
use Rattle.std.proofs.lemmas.List.Elements.{All-nil, All-cons, All-append}
use Rattle.std.proofs.lemmas.List.Kept.{AllPairs-cons}
use Rattle.fix_math.specs.Floor.{rnd_within}
use Rattle.fix_math.specs.Numbers.{rnd}
use Rattle.fix_math.specs.declared.fix.V3.{V3}
use Rattle.scene_lexer.specs.declared.sign.TheConstants.{OPEN_SQUARE}
use Rattle.scene_lexer.specs.declared.token.Place.{Place}
use Rattle.scene_lexer.specs.declared.token.Token.{Token}
use Rattle.scene_expr.specs.declared.value.Settings.{Settings}
use Rattle.scene_expr.specs.declared.value.Value.{Value}
use Rattle.scene_expr.specs.Heads.{sign_at}
use Rattle.scene_model.specs.Amounts.{IsAmount, AreAmounts, IsRgbft, IsIor}
use Rattle.scene_model.specs.Looks.{IsBrickSize, IsFinish}
use Rattle.scene_model.specs.declared.texture.Entry.{Entry}
use Rattle.scene_model.specs.declared.texture.Finish.{Finish}
use Rattle.item_blocks.specs.declared.fault.ParseFault.{ParseFault}
use Rattle.item_blocks.specs.declared.look.LookPart.{LookPart}
use Rattle.item_blocks.specs.declared.patterns.Paint.{Paint}
use Rattle.item_blocks.specs.declared.pigment.PigmentDraft.{PigmentDraft}
use Rattle.item_blocks.specs.declared.pigment_parts.Beginning.{Beginning}
use Rattle.item_blocks.specs.declared.pigment_parts.PigmentPart.{PigmentPart}
use Rattle.item_blocks.specs.declared.texture.MaterialDraft.{MaterialDraft}
use Rattle.item_blocks.specs.declared.texture.MaterialPart.{MaterialPart}
use Rattle.item_blocks.specs.declared.texture.TextureDraft.{TextureDraft}
use Rattle.item_blocks.specs.declared.texture.TexturePart.{TexturePart}
use Rattle.item_blocks.specs.declared.words.FinishWord.{FinishWord}
use Rattle.item_blocks.specs.declared.words.FinishWord.TheVariants.{Ambient, Diffuse, Phong, PhongSize, Specular, Roughness, Reflection}
use Rattle.item_blocks.specs.declared.words.PatternWord.{PatternWord}
use Rattle.item_blocks.specs.declared.words.PigmentWord.{PigmentWord}
use Rattle.item_blocks.specs.Tokens.{Behind, or_else}
use Rattle.item_blocks.specs.Parameters.{is_between, is_vector_between, in_range, float_in, vector_in, any_float_of, float_of, vector_of, colour_of, rgb_of}
use Rattle.item_blocks.specs.Blocks.{IsBlock}
use Rattle.item_blocks.specs.Finishes.{grey, plain_finish, whole_of, gloss_of, finish_with, IsValued, IsFinishPart, finish_kind}
use Rattle.item_blocks.specs.Pigments.{at_of, last_at, is_behind, ascending, ascending_of, entry_opened, IsEntry, map_kind, rgb, blue, green, red, mortar_grey, brick_red, plain_pigment, IsColourElse, IsTwo, IsThree, IsPattern, IsPainted, most, pigment_with, IsPigmentPart, pigment_kind}
use Rattle.item_blocks.specs.Textures.{no_texture, no_material, with_texture, IsShifted, IsTexturePart, texture_kind, plain_interior, interior_with, IsInteriorPart, interior_kind, IsMaterialPart, material_kind}
use Rattle.item_blocks.specs.Looks.{with_material, IsLookOfTexture, IsLook}
use Rattle.item_blocks.specs.Sound.{IsSoundPaint, IsSoundMap, IsSoundPigment, IsSoundTexture, IsSoundInterior, IsSoundMaterial}
use Rattle.item_blocks.specs.SoundLaws.{kept_then, kept_ok, kept_parameter, Keeps, kept_same, kept_refused, kept_block, kept_checked, int_test, between, and_split, kept_float, kept_rgb, kept_colour, start_placed, moved_placed, one_placed, first_placed}

-- ---- finishes

abbrev IsSize : ℤ → Type 0
IsSize z = (1 ≤ whole_of z) × (whole_of z ≤ 65535)

abbrev IsGloss : ℤ → Type 0
IsGloss z = (1 ≤ gloss_of z) × (gloss_of z ≤ 65536)

at_least_one : (n most : ℕ) → n ≤ most → 1 ≤ most → (1 ≤ max 1 n) × (max 1 n ≤ most)
at_least_one n most le some = (omega arith, omega arith)

size_of : (z : ℤ) → is_between (pos 65536) (pos 4294901760) z ≡ true → IsSize z
size_of z h =
    let k = between (pos 65536) (pos 4294901760) z h in
    at_least_one (unsigned_abs (rnd z (pos 65536))) 65535 (rnd_within z 65536 65535 (omega arith) (omega (arith, ints, k.0, k.1))) (omega arith)

gloss_is : (z : ℤ) → is_between (pos 1) (pos 65536) z ≡ true → IsGloss z
gloss_is (pos n) h =
    let k = between (pos 1) (pos 65536) (pos n) h in
    let some : 1 ≤ n = omega (arith, ints, k.0) in
    at_least_one (unsigned_abs (rnd (pos 4294967296) (pos (n * 65536)))) 65536 (rnd_within (pos 4294967296) (n * 65536) 65536 (omega (arith, some)) (omega (arith, some))) (omega arith)
gloss_is (negsuc n) h = absurd (omega (arith, ints, (between (pos 1) (pos 65536) (negsuc n) h).0))

kept_finish_with : (finish : Finish) (word : FinishWord) (value : Value) (place : Place) → IsFinish finish → IfOk (finish_with finish word value place) IsFinish
kept_finish_with finish Ambient value place s =
    kept_ok (AreAmounts (2 ^ 20)) IsFinish (rgb_of (pos 1048576) value place) _ (kept_rgb 1048576 value place) (λ c h. record { ambient = h; diffuse = s.diffuse; phong = s.phong; phong_size_low = s.phong_size_low; phong_size_high = s.phong_size_high; specular = s.specular; gloss_low = s.gloss_low; gloss_high = s.gloss_high; reflection = s.reflection })
kept_finish_with finish Diffuse value place s =
    kept_ok (IsAmount (2 ^ 20)) IsFinish (float_of (pos 0) (pos 1048576) value place) _ (kept_float 1048576 value place) (λ c h. record { ambient = s.ambient; diffuse = h; phong = s.phong; phong_size_low = s.phong_size_low; phong_size_high = s.phong_size_high; specular = s.specular; gloss_low = s.gloss_low; gloss_high = s.gloss_high; reflection = s.reflection })
kept_finish_with finish Phong value place s =
    kept_ok (IsAmount (2 ^ 20)) IsFinish (float_of (pos 0) (pos 1048576) value place) _ (kept_float 1048576 value place) (λ c h. record { ambient = s.ambient; diffuse = s.diffuse; phong = h; phong_size_low = s.phong_size_low; phong_size_high = s.phong_size_high; specular = s.specular; gloss_low = s.gloss_low; gloss_high = s.gloss_high; reflection = s.reflection })
kept_finish_with finish PhongSize value place s =
    kept_ok IsSize IsFinish (float_of (pos 65536) (pos 4294901760) value place) _ (kept_checked IsSize (is_between (pos 65536) (pos 4294901760)) (float_in value) place size_of) (λ c h. record { ambient = s.ambient; diffuse = s.diffuse; phong = s.phong; phong_size_low = h.0; phong_size_high = h.1; specular = s.specular; gloss_low = s.gloss_low; gloss_high = s.gloss_high; reflection = s.reflection })
kept_finish_with finish Specular value place s =
    kept_ok (IsAmount (2 ^ 20)) IsFinish (float_of (pos 0) (pos 1048576) value place) _ (kept_float 1048576 value place) (λ c h. record { ambient = s.ambient; diffuse = s.diffuse; phong = s.phong; phong_size_low = s.phong_size_low; phong_size_high = s.phong_size_high; specular = h; gloss_low = s.gloss_low; gloss_high = s.gloss_high; reflection = s.reflection })
kept_finish_with finish Roughness value place s =
    kept_ok IsGloss IsFinish (float_of (pos 1) (pos 65536) value place) _ (kept_checked IsGloss (is_between (pos 1) (pos 65536)) (float_in value) place gloss_is) (λ c h. record { ambient = s.ambient; diffuse = s.diffuse; phong = s.phong; phong_size_low = s.phong_size_low; phong_size_high = s.phong_size_high; specular = s.specular; gloss_low = h.0; gloss_high = h.1; reflection = s.reflection })
kept_finish_with finish Reflection value place s =
    kept_ok (AreAmounts 65536) IsFinish (rgb_of (pos 65536) value place) _ (kept_rgb 65536 value place) (λ c h. record { ambient = s.ambient; diffuse = s.diffuse; phong = s.phong; phong_size_low = s.phong_size_low; phong_size_high = s.phong_size_high; specular = s.specular; gloss_low = s.gloss_low; gloss_high = s.gloss_high; reflection = h })

amount : (most n : ℕ) → n ≤ most → IsAmount most (pos n)
amount most n le = record { low = omega (arith, ints); high = le }

greys_are : (most n : ℕ) → n ≤ most → AreAmounts most (grey (pos n))
greys_are most n le = record { first = amount most n le; second = amount most n le; third = amount most n le }

pub plain_finish_sound : IsFinish plain_finish
plain_finish_sound = record {
  ambient = greys_are (2 ^ 20) 6554 (omega arith);
  diffuse = amount (2 ^ 20) 39322 (omega arith);
  phong = amount (2 ^ 20) 0 (omega arith);
  phong_size_low = omega arith;
  phong_size_high = omega arith;
  specular = amount (2 ^ 20) 0 (omega arith);
  gloss_low = omega arith;
  gloss_high = omega arith;
  reflection = greys_are 65536 0 (omega arith);
}

-- ---- colour maps

pairs_tail : {X : Type 0} (R : X → X → Type 0) (x : X) (xs : List X) → AllPairs R (x ∷ xs) → AllPairs R xs
pairs_tail R x xs all = λ i j d lt within. all (suc i) (suc j) d (omega (arith, lt)) (omega (arith, within))

pairs_head : {X : Type 0} (R : X → X → Type 0) (x : X) (xs : List X) → AllPairs R (x ∷ xs) → All (R x) xs
pairs_head R x xs all = λ k d within. all 0 (suc k) d (omega arith) (omega (arith, within))

all_head : {X : Type 0} (P : X → Type 0) (x : X) (xs : List X) → All P (x ∷ xs) → P x
all_head P x xs all = all 0 x (omega arith)

all_tail : {X : Type 0} (P : X → Type 0) (x : X) (xs : List X) → All P (x ∷ xs) → All P xs
all_tail P x xs all = λ k d within. all (suc k) d (omega (arith, within))

one_pair : {X : Type 0} (R : X → X → Type 0) (y : X) → AllPairs R (y ∷ [])
one_pair R y = λ i j d lt within. absurd (omega (arith, lt, within))

-- one behind all
pairs_more : {X : Type 0} (R : X → X → Type 0) (xs : List X) (y : X) → AllPairs R xs → All (λ x. R x y) xs → AllPairs R (xs ++ y ∷ [])
pairs_more R [] y pairs below = one_pair R y
pairs_more R (x ∷ xs) y pairs below =
    AllPairs-cons R x (xs ++ y ∷ [])
    (All-append (R x) xs (y ∷ []) (pairs_head R x xs pairs) (All-cons (R x) y [] (all_head (λ z. R z y) x xs below) (All-nil (R x))))
    (pairs_more R xs y (pairs_tail R x xs pairs) (all_tail (λ z. R z y) x xs below))

abbrev Ascends : Entry → Entry → Type 0
Ascends low high = low.at ≤ℤ high.at

last_further : (x y : Entry) (ys : List Entry) → last_at (x ∷ y ∷ ys) ≡ last_at (y ∷ ys)
last_further x y ys =
    let more : suc (suc (length ys)) - 1 ≡ suc (length ys) = omega arith in
    let less : suc (length ys) - 1 ≡ length ys = omega arith in
    ap (λ n. at_of (slice_get (x ∷ y ∷ ys) n)) more ∙ ap (λ n. at_of (slice_get (y ∷ ys) n)) (sym less)

-- the last of an ascending map is the greatest
all_below : (at : ℤ) (entries : List Entry) → AllPairs Ascends entries → is_behind (last_at entries) at ≡ true → All (λ entry. entry.at ≤ℤ at) entries
all_below at [] pairs last = All-nil (λ entry. entry.at ≤ℤ at)
all_below at (x ∷ []) pairs last = All-cons (λ entry. entry.at ≤ℤ at) x [] (int_test x.at at last) (All-nil (λ entry. entry.at ≤ℤ at))
all_below at (x ∷ y ∷ ys) pairs last =
    let rest = all_below at (y ∷ ys) (pairs_tail Ascends x (y ∷ ys) pairs) (subst (λ (l : _). is_behind l at ≡ true) (last_further x y ys) last) in
    let first : x.at ≤ℤ y.at = all_head (Ascends x) y ys (pairs_head Ascends x (y ∷ ys) pairs) in
    let second : y.at ≤ℤ at = all_head (λ entry. entry.at ≤ℤ at) y ys rest in
    All-cons (λ entry. entry.at ≤ℤ at) x (y ∷ ys) (omega (arith, ints, first, second)) rest

few_by : (b c : Bool) (start n : ℕ) (f g : ParseFault) → Ok start ≡ (if b then (if c then Ok n else Err f) else Err g) → c ≡ true
few_by true true start n f g is = refl
few_by true false start n f g is = absurd (cc is)
few_by false c start n f g is = absurd (cc is)

lt_test : (a b : ℕ) → nat_lt a b ≡ true → a < b
lt_test a b h = grind (arith, nat_tests)

few_entries : (tokens : List Token) (count at start : ℕ) → Ok start ≡ entry_opened tokens count at → count < 256
few_entries tokens count at start is = lt_test count 256 (few_by (nat_eq (sign_at tokens at) OPEN_SQUARE) (nat_lt count 256) start _ _ _ is)

ascending_kept : (entries : List Entry) (place : Place) (m : Result ℤ ParseFault) → IfOk (ascending entries place m) (λ at. is_behind (last_at entries) at ≡ true)
ascending_kept entries place (Err f) = tt
ascending_kept entries place (Ok at) = by_test (is_behind (last_at entries) at) refl
  where
    by_test : (b : Bool) → is_behind (last_at entries) at ≡ b → IfOk (in_range b at place) (λ z. is_behind (last_at entries) z ≡ true)
    by_test true e = e
    by_test false e = tt

length_one_more : (entries : List Entry) (entry : Entry) → length (entries ++ entry ∷ []) ≡ length entries + 1
length_one_more [] entry = refl
length_one_more (x ∷ xs) entry = omega (arith, length_one_more xs entry)

map_more : (entries : List Entry) (entry : Entry) → IsSoundMap entries → length entries < 256 → IsRgbft entry.colour → is_behind (last_at entries) entry.at ≡ true → IsSoundMap (entries ++ entry ∷ [])
map_more entries entry s few colour last = record {
  few = omega (arith, few, length_one_more entries entry);
  colours = All-append (λ e. IsRgbft e.colour) entries (entry ∷ []) s.colours (All-cons (λ e. IsRgbft e.colour) entry [] colour (All-nil (λ e. IsRgbft e.colour)));
  ascending = pairs_more Ascends entries entry s.ascending (all_below entry.at entries s.ascending last);
}

no_map_sound : IsSoundMap []
no_map_sound = record { few = omega arith; colours = All-nil (λ e. IsRgbft e.colour); ascending = λ i j d lt within. absurd (omega (arith, lt, within)) }

-- ---- pigments

is_brick_size : (v : V3) → is_vector_between (pos 1) most v ≡ true → IsBrickSize v
is_brick_size v h =
    let k = and_split (is_between (pos 1) most v.x) _ h in
    let m = and_split (is_between (pos 1) most v.y) _ k.1 in
    record { x = omega (arith, ints, (between (pos 1) most v.x k.0).0); y = omega (arith, ints, (between (pos 1) most v.y m.0).0); z = omega (arith, ints, (between (pos 1) most v.z m.1).0) }

is_width : (z : ℤ) → is_between (pos 0) most z ≡ true → pos 0 ≤ℤ z
is_width z h = (between (pos 0) most z h).0

kept_pigment_with : (draft : PigmentDraft) (word : PigmentWord) (value : Value) (place : Place) → IsSoundPigment draft → IfOk (pigment_with draft word value place) IsSoundPigment
kept_pigment_with draft PigmentWord.BrickSize value place s =
    kept_ok IsBrickSize IsSoundPigment (vector_of (pos 1) most value place) _ (kept_checked IsBrickSize (is_vector_between (pos 1) most) (vector_in value) place is_brick_size) (λ v h. record { paint = s.paint; map = s.map; size = h; width = s.width; xform = s.xform })
kept_pigment_with draft PigmentWord.Mortar value place s =
    kept_ok (λ z. pos 0 ≤ℤ z) IsSoundPigment (float_of (pos 0) most value place) _ (kept_checked (λ z. pos 0 ≤ℤ z) (is_between (pos 0) most) (float_in value) place is_width) (λ z h. record { paint = s.paint; map = s.map; size = s.size; width = h; xform = s.xform })

is_rgbft : (r g b : ℕ) → r ≤ 65536 → g ≤ 65536 → b ≤ 65536 → IsRgbft (rgb (pos r) (pos g) (pos b))
is_rgbft r g b x y z = record {
  rgb = record { first = amount (2 ^ 24) r (omega (arith, x)); second = amount (2 ^ 24) g (omega (arith, y)); third = amount (2 ^ 24) b (omega (arith, z)) };
  filter = amount 65536 0 (omega arith);
  transmit = amount 65536 0 (omega arith);
}

pub plain_pigment_sound : IsSoundPigment plain_pigment
plain_pigment_sound = record {
  paint = is_rgbft 0 0 0 (omega arith) (omega arith) (omega arith);
  map = no_map_sound;
  size = record { x = omega (arith, ints); y = omega (arith, ints); z = omega (arith, ints) };
  width = omega (arith, ints);
  xform = start_placed;
}

two_are : (a b : List ℤ) → IsRgbft a → IsRgbft b → All IsRgbft (a ∷ b ∷ [])
two_are a b x y = All-cons IsRgbft a (b ∷ []) x (All-cons IsRgbft b [] y (All-nil IsRgbft))

three_are : (a b c : List ℤ) → IsRgbft a → IsRgbft b → IsRgbft c → All IsRgbft (a ∷ b ∷ c ∷ [])
three_are a b c x y z = All-cons IsRgbft a (b ∷ c ∷ []) x (two_are b c y z)

-- ---- textures, interiors and materials

either : {A : Type 0} (P : A → Type 0) (inner outer : Option A) → IfSome inner P → IfSome outer P → IfSome (or_else inner outer) P
either P None outer x y = y
either P (Some a) outer x y = x

pub no_texture_sound : IsSoundTexture no_texture
no_texture_sound = record { pigment = tt; finish = tt }

pub no_material_sound : IsSoundMaterial no_material
no_material_sound = record { texture = no_texture_sound; interior = tt }

pub with_texture_sound : (texture inner : TextureDraft) → IsSoundTexture texture → IsSoundTexture inner → IsSoundTexture (with_texture texture inner)
with_texture_sound texture inner x y = record {
  pigment = either IsSoundPigment inner.pigment texture.pigment y.pigment x.pigment;
  finish = either IsFinish inner.finish texture.finish y.finish x.finish;
}

with_material_sound : (looks inner : MaterialDraft) → IsSoundMaterial looks → IsSoundMaterial inner → IsSoundMaterial (with_material looks inner)
with_material_sound looks inner x y = record {
  texture = with_texture_sound looks.texture inner.texture x.texture y.texture;
  interior = either IsSoundInterior inner.interior looks.interior y.interior x.interior;
}

ior_is : (z : ℤ) → is_between (pos 4096) (pos 1048576) z ≡ true → IsIor z
ior_is z h = let k = between (pos 4096) (pos 1048576) z h in record { low = k.0; high = omega (arith, ints, k.0, k.1) }

plain_interior_sound : IsSoundInterior plain_interior
plain_interior_sound = record { low = omega (arith, ints); high = omega arith }

module _ (tokens : List Token) (set : Settings) where
  -- ---- what is read of finishes

  kept_valued : (depths : ℕ) (enclosed : Bool) (word : FinishWord) → Keeps IsFinish (IsValued tokens set depths enclosed word)
  kept_valued depths true word finish at r s read =
      kept_then (λ b. IsFinish b.value) read (λ start opens more.
      kept_then (λ b. IsFinish b.value) more (λ given is more.
      kept_then (λ b. IsFinish b.value) more (λ next closes is_given.
      kept_same IsFinish given.value next r (kept_parameter IsFinish (finish_with finish word) tokens set start (Ok given) (λ value place. kept_finish_with finish word value place s) is) is_given)))
  kept_valued depths false word finish at r s read = kept_parameter IsFinish (finish_with finish word) tokens set at r (λ value place. kept_finish_with finish word value place s) read

  kept_finish_part : (depths : ℕ) (word : Option FinishWord) → Keeps IsFinish (IsFinishPart tokens set depths word)
  kept_finish_part depths (Some word) finish at r s read = kept_valued depths _ word finish (at + 1) r s read
  kept_finish_part depths None finish at r s read = kept_refused IsFinish _ r read

  pub finish_kept : (depths : ℕ) → Keeps IsFinish (IsBlock (finish_kind tokens set) tokens depths)
  finish_kept = kept_block IsFinish (finish_kind tokens set) tokens (λ depths led finish at r s is. kept_same IsFinish finish at r s is) (λ depths finish at r s read. kept_finish_part depths _ finish at r s read)

  -- ---- of pigments

  kept_entry : Keeps IsSoundMap (IsEntry tokens set)
  kept_entry entries at r s read =
      kept_then (λ b. IsSoundMap b.value) read (λ start opens more.
      kept_then (λ b. IsSoundMap b.value) more (λ place is_place more.
      kept_then (λ b. IsSoundMap b.value) more (λ colour is_colour more.
      kept_then (λ b. IsSoundMap b.value) more (λ next closes is.
      let low = kept_parameter (λ z. is_behind (last_at entries) z ≡ true) (ascending_of entries) tokens set start (Ok place) (λ value p. ascending_kept entries p (any_float_of value p)) is_place in
      let rgbft = kept_parameter IsRgbft colour_of tokens set _ (Ok colour) kept_colour is_colour in
      kept_same IsSoundMap _ next r (map_more entries (record { at = place.value; colour = colour.value }) s (few_entries tokens (length entries) at start opens) rgbft low) is))))

  kept_map : (depths : ℕ) → Keeps IsSoundMap (IsBlock (map_kind tokens set) tokens depths)
  kept_map = kept_block IsSoundMap (map_kind tokens set) tokens (λ depths led entries at r s is. kept_same IsSoundMap entries at r s is) (λ depths. kept_entry)

  kept_colour_else : (start : Option ℕ) → Keeps IsRgbft (IsColourElse tokens set start)
  kept_colour_else (Some start) colour at r s read = kept_parameter IsRgbft colour_of tokens set start r kept_colour read
  kept_colour_else None colour at r s read = kept_same IsRgbft colour at r s read

  kept_two : (a b : List ℤ) (at : ℕ) (r : Result (Behind (List (List ℤ))) ParseFault) → IsRgbft a → IsRgbft b → IsTwo tokens set a b at r → IfOk r (λ c. All IsRgbft c.value)
  kept_two a b at r x y read =
      kept_then (λ c. All IsRgbft c.value) read (λ first is_first more.
      kept_then (λ c. All IsRgbft c.value) more (λ second is_second is.
      kept_same (All IsRgbft) (first.value ∷ second.value ∷ []) second.next r (two_are first.value second.value (kept_colour_else _ a at (Ok first) x is_first) (kept_colour_else _ b first.next (Ok second) y is_second)) is))

  kept_three : (a b c : List ℤ) (at : ℕ) (r : Result (Behind (List (List ℤ))) ParseFault) → IsRgbft a → IsRgbft b → IsRgbft c → IsThree tokens set a b c at r → IfOk r (λ c. All IsRgbft c.value)
  kept_three a b c at r x y z read =
      kept_then (λ c. All IsRgbft c.value) read (λ first is_first more.
      kept_then (λ c. All IsRgbft c.value) more (λ second is_second more.
      kept_then (λ c. All IsRgbft c.value) more (λ third is_third is.
      kept_same (All IsRgbft) (first.value ∷ second.value ∷ third.value ∷ []) third.next r (three_are first.value second.value third.value (kept_colour_else _ a at (Ok first) x is_first) (kept_colour_else _ b first.next (Ok second) y is_second) (kept_colour_else _ c second.next (Ok third) z is_third)) is)))

  kept_pattern : (word : PatternWord) (at : ℕ) (r : Result (Behind Paint) ParseFault) → IsPattern tokens set word at r → IfOk r (λ b. IsSoundPaint b.value)
  kept_pattern PatternWord.Checker at r read =
      kept_then (λ b. IsSoundPaint b.value) read (λ c is_two is.
      kept_same IsSoundPaint (Paint.Checker c.value) c.next r (kept_two blue green at (Ok c) (is_rgbft 0 0 65536 (omega arith) (omega arith) (omega arith)) (is_rgbft 0 65536 0 (omega arith) (omega arith) (omega arith)) is_two) is)
  kept_pattern PatternWord.Brick at r read =
      kept_then (λ b. IsSoundPaint b.value) read (λ c is_two is.
      kept_same IsSoundPaint (Paint.Brick c.value) c.next r (kept_two mortar_grey brick_red at (Ok c) (is_rgbft 32768 32768 32768 (omega arith) (omega arith) (omega arith)) (is_rgbft 39322 9830 9830 (omega arith) (omega arith) (omega arith)) is_two) is)
  kept_pattern PatternWord.Hexagon at r read =
      kept_then (λ b. IsSoundPaint b.value) read (λ c is_three is.
      kept_same IsSoundPaint (Paint.Hexagon c.value) c.next r (kept_three blue green red at (Ok c) (is_rgbft 0 0 65536 (omega arith) (omega arith) (omega arith)) (is_rgbft 0 65536 0 (omega arith) (omega arith) (omega arith)) (is_rgbft 65536 0 0 (omega arith) (omega arith) (omega arith)) is_three) is)
  kept_pattern PatternWord.Gradient at r read =
      kept_then (λ b. IsSoundPaint b.value) read (λ axis is_axis is. kept_same IsSoundPaint (Paint.Gradient axis.value) axis.next r tt is)

  kept_painted : (beginning : Beginning) → Keeps IsSoundPigment (IsPainted tokens set beginning)
  kept_painted (Beginning.Pattern word) draft at r s read =
      kept_then (λ b. IsSoundPigment b.value) read (λ paint is_paint is.
      kept_same IsSoundPigment (record draft { paint = paint.value }) paint.next r (record { paint = kept_pattern word (at + 1) (Ok paint) is_paint; map = s.map; size = s.size; width = s.width; xform = s.xform }) is)
  kept_painted Beginning.Colour draft at r s read =
      kept_then (λ b. IsSoundPigment b.value) read (λ colour is_colour is.
      kept_same IsSoundPigment (record draft { paint = Paint.Plain colour.value }) colour.next r (record { paint = kept_parameter IsRgbft colour_of tokens set at (Ok colour) kept_colour is_colour; map = s.map; size = s.size; width = s.width; xform = s.xform }) is)
  kept_painted Beginning.Neither draft at r s read = kept_same IsSoundPigment draft at r s read

  kept_pigment_part : (depths : ℕ) (part : PigmentPart) → Keeps IsSoundPigment (IsPigmentPart tokens set depths part)
  kept_pigment_part depths PigmentPart.Map draft at r s read =
      kept_then (λ b. IsSoundPigment b.value) read (λ map is_map is.
      kept_same IsSoundPigment (record draft { map = map.value }) map.next r (record { paint = s.paint; map = kept_map depths [] (at + 1) (Ok map) no_map_sound is_map; size = s.size; width = s.width; xform = s.xform }) is)
  kept_pigment_part depths (PigmentPart.Parameter word) draft at r s read = kept_parameter IsSoundPigment (pigment_with draft word) tokens set (at + 1) r (λ value place. kept_pigment_with draft word value place s) read
  kept_pigment_part depths PigmentPart.Move draft at r s read =
      kept_then (λ b. IsSoundPigment b.value) read (λ moved is_moved is.
      kept_same IsSoundPigment (record draft { xform = slice_index_or moved.value 0 draft.xform }) moved.next r (record { paint = s.paint; map = s.map; size = s.size; width = s.width; xform = one_placed draft.xform moved.value s.xform (moved_placed tokens set depths (draft.xform ∷ []) at (Ok moved) (first_placed draft.xform s.xform) is_moved) }) is)
  kept_pigment_part depths PigmentPart.Other draft at r s read = kept_refused IsSoundPigment _ r read

  pub pigment_kept : (depths : ℕ) → Keeps IsSoundPigment (IsBlock (pigment_kind tokens set) tokens depths)
  pigment_kept = kept_block IsSoundPigment (pigment_kind tokens set) tokens (λ depths led draft at r s read. kept_painted _ draft at r s read) (λ depths draft at r s read. kept_pigment_part depths _ draft at r s read)

  -- ---- of textures, interiors and materials

  kept_shifted : (depths : ℕ) (pigment : Option PigmentDraft) (texture : TextureDraft) (at : ℕ) (r : Result (Behind TextureDraft) ParseFault) → IfSome pigment IsSoundPigment → IsSoundTexture texture → IsShifted tokens set depths pigment texture at r → IfOk r (λ b. IsSoundTexture b.value)
  kept_shifted depths None texture at r p s read =
      kept_then (λ b. IsSoundTexture b.value) read (λ moved is_moved is.
      kept_same IsSoundTexture (record texture { pigment = None }) moved.next r (record { pigment = tt; finish = s.finish }) is)
  kept_shifted depths (Some pigment) texture at r p s read =
      kept_then (λ b. IsSoundTexture b.value) read (λ moved is_moved is.
      kept_same IsSoundTexture (record texture { pigment = Some moved.value }) moved.next r (record { pigment = kept_pigment_part depths PigmentPart.Move pigment at (Ok moved) p is_moved; finish = s.finish }) is)

  kept_texture_part : (depths : ℕ) (part : TexturePart) → Keeps IsSoundTexture (IsTexturePart tokens set depths part)
  kept_texture_part depths TexturePart.Pigment texture at r s read =
      kept_then (λ b. IsSoundTexture b.value) read (λ pigment is_pigment is.
      kept_same IsSoundTexture (record texture { pigment = Some pigment.value }) pigment.next r (record { pigment = pigment_kept depths plain_pigment (at + 1) (Ok pigment) plain_pigment_sound is_pigment; finish = s.finish }) is)
  kept_texture_part depths TexturePart.Finish texture at r s read =
      kept_then (λ b. IsSoundTexture b.value) read (λ finish is_finish is.
      kept_same IsSoundTexture (record texture { finish = Some finish.value }) finish.next r (record { pigment = s.pigment; finish = finish_kept depths plain_finish (at + 1) (Ok finish) plain_finish_sound is_finish }) is)
  kept_texture_part depths TexturePart.Move texture at r s read = kept_shifted depths texture.pigment texture at r s.pigment s read
  kept_texture_part depths TexturePart.Other texture at r s read = kept_refused IsSoundTexture _ r read

  pub texture_kept : (depths : ℕ) → Keeps IsSoundTexture (IsBlock (texture_kind tokens set) tokens depths)
  texture_kept = kept_block IsSoundTexture (texture_kind tokens set) tokens (λ depths led texture at r s is. kept_same IsSoundTexture texture at r s is) (λ depths texture at r s read. kept_texture_part depths _ texture at r s read)

  kept_interior_with : (value : Value) (place : Place) → IfOk (interior_with value place) IsSoundInterior
  kept_interior_with value place =
      kept_ok IsIor IsSoundInterior (float_of (pos 4096) (pos 1048576) value place) _ (kept_checked IsIor (is_between (pos 4096) (pos 1048576)) (float_in value) place ior_is) (λ z h. h)

  kept_interior_part : (depths : ℕ) (named : Bool) → Keeps IsSoundInterior (IsInteriorPart tokens set named)
  kept_interior_part depths true interior at r s read = kept_parameter IsSoundInterior interior_with tokens set (at + 1) r kept_interior_with read
  kept_interior_part depths false interior at r s read = kept_refused IsSoundInterior _ r read

  pub interior_kept : (depths : ℕ) → Keeps IsSoundInterior (IsBlock (interior_kind tokens set) tokens depths)
  interior_kept = kept_block IsSoundInterior (interior_kind tokens set) tokens (λ depths led interior at r s is. kept_same IsSoundInterior interior at r s is) (λ depths interior at r s read. kept_interior_part depths _ interior at r s read)

  kept_material_part : (depths : ℕ) (part : MaterialPart) → Keeps IsSoundMaterial (IsMaterialPart tokens set depths part)
  kept_material_part depths MaterialPart.Texture material at r s read =
      kept_then (λ b. IsSoundMaterial b.value) read (λ inner is_inner is.
      kept_same IsSoundMaterial (record material { texture = with_texture material.texture inner.value }) inner.next r (record { texture = with_texture_sound material.texture inner.value s.texture (texture_kept depths no_texture (at + 1) (Ok inner) no_texture_sound is_inner); interior = s.interior }) is)
  kept_material_part depths MaterialPart.Interior material at r s read =
      kept_then (λ b. IsSoundMaterial b.value) read (λ interior is_interior is.
      kept_same IsSoundMaterial (record material { interior = Some interior.value }) interior.next r (record { texture = s.texture; interior = interior_kept depths plain_interior (at + 1) (Ok interior) plain_interior_sound is_interior }) is)
  kept_material_part depths MaterialPart.Other material at r s read = kept_refused IsSoundMaterial _ r read

  pub material_kept : (depths : ℕ) → Keeps IsSoundMaterial (IsBlock (material_kind tokens set) tokens depths)
  material_kept = kept_block IsSoundMaterial (material_kind tokens set) tokens (λ depths led material at r s is. kept_same IsSoundMaterial material at r s is) (λ depths material at r s read. kept_material_part depths _ material at r s read)

  -- ---- of the looks of an object

  kept_look_of_texture : (depths : ℕ) (part : TexturePart) → Keeps IsSoundMaterial (IsLookOfTexture tokens set depths part)
  kept_look_of_texture depths part looks at r s read =
      kept_then (λ b. IsSoundMaterial b.value) read (λ texture is_texture is.
      kept_same IsSoundMaterial (record looks { texture = texture.value }) texture.next r (record { texture = kept_texture_part depths part looks.texture at (Ok texture) s.texture is_texture; interior = s.interior }) is)

  pub look_kept : (depths : ℕ) (part : LookPart) → Keeps IsSoundMaterial (IsLook tokens set depths part)
  look_kept depths LookPart.Pigment looks at r s read = kept_look_of_texture depths TexturePart.Pigment looks at r s read
  look_kept depths LookPart.Finish looks at r s read = kept_look_of_texture depths TexturePart.Finish looks at r s read
  look_kept depths LookPart.Texture looks at r s read = kept_material_part depths MaterialPart.Texture looks at r s read
  look_kept depths LookPart.Interior looks at r s read = kept_material_part depths MaterialPart.Interior looks at r s read
  look_kept depths LookPart.Material looks at r s read =
      kept_then (λ b. IsSoundMaterial b.value) read (λ inner is_inner is.
      kept_same IsSoundMaterial (with_material looks inner.value) inner.next r (with_material_sound looks inner.value s (material_kept depths no_material (at + 1) (Ok inner) no_material_sound is_inner)) is)
