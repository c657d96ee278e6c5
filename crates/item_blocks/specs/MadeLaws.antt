-- A texture that is made of sound drafts is valid.
use Rattle.std.specs.Prelude.{◌≡◌, ℕ, zero, suc, ◌≤◌, ◌≤ℤ◌, ℤ, pos, List, [], ◌∷◌, Option, Some, None, IfSome}
use Rattle.std.specs.List.{All}
use Rattle.std.proofs.Common.{subst, sym, arith}
use Rattle.std.proofs.lemmas.Int.{ints}
use Rattle.std.proofs.lemmas.List.Elements.{All-nil, All-cons}
use Rattle.std.proofs.lemmas.List.Kept.{AllPairs-cons}
use Rattle.scene_model.specs.Amounts.{IsAmount, IsRgbft}
use Rattle.scene_model.specs.Looks.{IsBrick, IsMap, IsPattern, IsFinish, IsTexture}
use Rattle.scene_model.specs.declared.texture.Entry.{Entry}
use Rattle.scene_model.specs.declared.texture.Finish.{Finish}
use Rattle.scene_model.specs.declared.texture.Pattern.{Pattern}
use Rattle.scene_model.specs.declared.texture.Texture.{Texture}
use Rattle.xform.specs.Transforms.{IsPlaced}
use Rattle.item_blocks.specs.declared.patterns.Paint.{Paint}
use Rattle.item_blocks.specs.declared.pigment.PigmentDraft.{PigmentDraft}
use Rattle.item_blocks.specs.declared.texture.TextureDraft.{TextureDraft}
use Rattle.item_blocks.specs.Tokens.{or_else}
use Rattle.item_blocks.specs.Pigments.{black, plain_pigment}
use Rattle.item_blocks.specs.Finishes.{plain_finish}
use Rattle.item_blocks.specs.Made.{PatternView, TextureView, pattern_seen, texture_seen, white, greys, map_or_greys, colour_at, pattern_of, or_plain, made_of, texture_of}
use Rattle.item_blocks.specs.Sound.{IsSoundPaint, IsSoundMap, IsSoundPigment, IsSoundTexture}
use Rattle.item_blocks.specs.SoundBlocks.{plain_finish_sound, plain_pigment_sound}

-- the same of what is seen
abbrev IsSeen : PatternView → Type 0
IsSeen (PatternView.Plain colour) = IsRgbft colour
IsSeen (PatternView.Checker colours) = All IsRgbft colours
IsSeen (PatternView.Brick mortar brick size width) = IsBrick mortar brick size width
IsSeen (PatternView.Hexagon colours) = All IsRgbft colours
IsSeen (PatternView.Gradient axis map) = IsMap map

seen_valid : (pattern : Pattern) → IsSeen (pattern_seen pattern) → IsPattern pattern
seen_valid (Pattern.Plain colour) s = s
seen_valid (Pattern.Checker colours) s = s
seen_valid (Pattern.Brick mortar brick size width) s = s
seen_valid (Pattern.Hexagon colours) s = s
seen_valid (Pattern.Gradient axis map) s = s

amount : (most n : ℕ) → n ≤ most → IsAmount most (pos n)
amount most n le = record { low = omega (arith, ints); high = le }

flat : (n : ℕ) → n ≤ 65536 → IsRgbft (pos n ∷ pos n ∷ pos n ∷ pos 0 ∷ pos 0 ∷ [])
flat n le = record {
  rgb = record { first = amount 16777216 n (omega (arith, le)); second = amount 16777216 n (omega (arith, le)); third = amount 16777216 n (omega (arith, le)) };
  filter = amount 65536 0 (omega arith);
  transmit = amount 65536 0 (omega arith);
}

abbrev Ascends : Entry → Entry → Type 0
Ascends low high = low.at ≤ℤ high.at

two_map : (a b : Entry) → IsRgbft a.colour → IsRgbft b.colour → a.at ≤ℤ b.at → IsMap (a ∷ b ∷ [])
two_map a b x y le = record {
  some = omega arith;
  few = omega arith;
  colours = All-cons (λ e. IsRgbft e.colour) a (b ∷ []) x (All-cons (λ e. IsRgbft e.colour) b [] y (All-nil (λ e. IsRgbft e.colour)));
  ascending = AllPairs-cons Ascends a (b ∷ []) (All-cons (Ascends a) b [] le (All-nil (Ascends a))) (λ i j d lt within. absurd (omega (arith, lt, within)));
}

greys_map : IsMap greys
greys_map = two_map (record { at = pos 0; colour = black }) (record { at = pos 65536; colour = white }) (flat 0 (omega arith)) (flat 65536 (omega arith)) (omega (arith, ints))

map_made : (entries : List Entry) → IsSoundMap entries → IsMap (map_or_greys entries)
map_made [] s = greys_map
map_made (entry ∷ entries) s = record { some = omega arith; few = s.few; colours = s.colours; ascending = s.ascending }

no_colour : IsRgbft []
no_colour = record { rgb = record { first = none 16777216; second = none 16777216; third = none 16777216 }; filter = none 65536; transmit = none 65536 }
  where
    none : (most : ℕ) → IsAmount most (pos 0)
    none most = record { low = omega (arith, ints); high = omega arith }

colour_at_sound : (colours : List (List ℤ)) (i : ℕ) → All IsRgbft colours → IsRgbft (colour_at colours i)
colour_at_sound [] i all = no_colour
colour_at_sound (c ∷ cs) zero all = all 0 [] (omega arith)
colour_at_sound (c ∷ cs) (suc i) all = colour_at_sound cs i (λ k d within. all (suc k) d (omega (arith, within)))

pattern_made : (paint : Paint) (draft : PigmentDraft) → IsSoundPaint paint → IsSoundPigment draft → IsSeen (pattern_of paint draft)
pattern_made (Paint.Plain colour) draft p s = p
pattern_made (Paint.Checker colours) draft p s = p
pattern_made (Paint.Brick colours) draft p s = record { mortar_colour = colour_at_sound colours 0 p; brick_colour = colour_at_sound colours 1 p; sides = s.size; thick = s.width }
pattern_made (Paint.Hexagon colours) draft p s = p
pattern_made (Paint.Gradient axis) draft p s = map_made draft.map s.map

given_or : {A : Type 0} (P : A → Type 0) (own default : Option A) (plain : A) → IfSome own P → IfSome default P → P plain → P (or_plain (or_else own default) plain)
given_or P (Some a) default plain x y z = x
given_or P None (Some a) plain x y z = y
given_or P None None plain x y z = z

record IsTextureSeen (view : TextureView) : Type 0 where
  pattern : IsSeen view.pattern
  xform : IsPlaced view.xform
  finish : IsFinish view.finish

made_sound : (pigment : PigmentDraft) (finish : Finish) → IsSoundPigment pigment → IsFinish finish → IsTextureSeen (made_of pigment finish)
made_sound pigment finish p f = record { pattern = pattern_made pigment.paint pigment p.paint p; xform = p.xform; finish = f }

texture_valid : (texture : Texture) → IsTextureSeen (texture_seen texture) → IsTexture texture
texture_valid texture s = record { pattern = seen_valid texture.pigment.pattern s.pattern; xform = s.xform; finish = s.finish }

pub texture_made : (texture : Texture) (own default : TextureDraft) → texture_seen texture ≡ texture_of own default → IsSoundTexture own → IsSoundTexture default → IsTexture texture
texture_made texture own default is x y =
    let pigment = given_or IsSoundPigment own.pigment default.pigment plain_pigment x.pigment y.pigment plain_pigment_sound in
    let finish = given_or IsFinish own.finish default.finish plain_finish x.finish y.finish plain_finish_sound in
    texture_valid texture (subst (λ (v : _). IsTextureSeen v) (sym is) (made_sound _ _ pigment finish))
