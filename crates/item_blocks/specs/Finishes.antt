-- Finishes: how a surface gives light back. (Reference manual, finish)
use Rattle.std.specs.Prelude.{◌≡◌, ℕ, ◌+◌, ℤ, pos, ◌*ℤ◌, Bool, true, false, ◌&&◌, max, nat_eq, unsigned_abs, List, [], ◌∷◌, Option, Some, None, Result, Ok, Err}
use Rattle.fix_math.specs.Numbers.{rnd}
use Rattle.scene_lexer.specs.declared.sign.TheConstants.{OPEN_BRACE, CLOSE_BRACE}
use Rattle.scene_lexer.specs.declared.token.Place.{Place}
use Rattle.scene_lexer.specs.declared.token.Token.{Token}
use Rattle.scene_expr.specs.declared.value.Settings.{Settings}
use Rattle.scene_expr.specs.declared.value.Value.{Value}
use Rattle.scene_expr.specs.Heads.{sign_at}
use Rattle.scene_expr.specs.Then.{IsThen, Is}
use Rattle.scene_model.specs.declared.texture.Finish.{Finish}
use Rattle.item_blocks.specs.declared.fault.ParseFault.{ParseFault}
use Rattle.item_blocks.specs.declared.fault.Wanted.{Wanted}
use Rattle.item_blocks.specs.declared.words.BlockWord.{BlockWord}
use Rattle.item_blocks.specs.declared.words.FinishWord.{FinishWord}
use Rattle.item_blocks.specs.declared.words.FinishWord.TheVariants.{Ambient, Diffuse, Phong, PhongSize, Specular, Roughness, Reflection}
use Rattle.item_blocks.specs.declared.words.Word.{Word}
use Rattle.item_blocks.specs.Tokens.{word_at, unfit_at, passed, opened, Behind}
use Rattle.item_blocks.specs.Parameters.{float_of, rgb_of, IsParameter}
use Rattle.item_blocks.specs.Blocks.{Statement, Kind, IsNothing}

abbrev pub on_ok : {A B E : Type 0} → Result A E → (A → B) → Result B E
on_ok (Ok a) f = Ok (f a)
on_ok (Err e) f = Err e

-- ---- meaning

abbrev pub grey : ℤ → List ℤ
grey a = a ∷ a ∷ a ∷ []

-- ambient 0.1 diffuse 0.6 phong 0 phong_size 40 specular 0 roughness 0.05 reflection 0
abbrev pub plain_finish : Finish
plain_finish = record { ambient = grey (pos 6554); diffuse = pos 39322; phong = pos 0; phong_size = 40; specular = pos 0; gloss = 20; reflection = grey (pos 0) }

-- a number as the nearest whole one, at least 1
abbrev pub whole_of : ℤ → ℕ
whole_of value = max 1 (unsigned_abs (rnd value (pos 65536)))

-- the exponent of the specular highlight: 1 over the roughness, from its raw number
abbrev pub gloss_of : ℤ → ℕ
gloss_of roughness = max 1 (unsigned_abs (rnd (pos 4294967296) (roughness *ℤ pos 65536)))

-- what a word of a finish makes of the value behind it: each in its range
abbrev pub finish_with : Finish → FinishWord → Value → Place → Result Finish ParseFault
finish_with finish Ambient value place = on_ok (rgb_of (pos 1048576) value place) (λ c. record finish { ambient = c })
finish_with finish Diffuse value place = on_ok (float_of (pos 0) (pos 1048576) value place) (λ a. record finish { diffuse = a })
finish_with finish Phong value place = on_ok (float_of (pos 0) (pos 1048576) value place) (λ a. record finish { phong = a })
finish_with finish PhongSize value place = on_ok (float_of (pos 65536) (pos 4294901760) value place) (λ a. record finish { phong_size = whole_of a })
finish_with finish Specular value place = on_ok (float_of (pos 0) (pos 1048576) value place) (λ a. record finish { specular = a })
finish_with finish Roughness value place = on_ok (float_of (pos 1) (pos 65536) value place) (λ a. record finish { gloss = gloss_of a })
finish_with finish Reflection value place = on_ok (rgb_of (pos 65536) value place) (λ c. record finish { reflection = c })

-- ---- grammar

abbrev pub IsGiven : List Token → Settings → FinishWord → Statement Finish
IsGiven tokens set word finish at r = IsParameter Finish (finish_with finish word) tokens set at r

-- reflection's colour may stand in braces
abbrev pub IsEnclosed : List Token → Settings → ℕ → FinishWord → Statement Finish
IsEnclosed tokens set depths word finish at r =
    IsThen ℕ (Behind Finish) ParseFault (Is (opened tokens depths at)) (λ start.
    IsThen (Behind Finish) (Behind Finish) ParseFault (IsGiven tokens set word finish start) (λ given.
    IsThen ℕ (Behind Finish) ParseFault (Is (passed CLOSE_BRACE Wanted.CloseBrace tokens given.next)) (λ next.
    Is (Ok (record { value = given.value; next = next }))))) r

abbrev pub is_reflection : FinishWord → Bool
is_reflection Reflection = true
is_reflection other = false

abbrev pub is_enclosed : List Token → FinishWord → ℕ → Bool
is_enclosed tokens word at = is_reflection word && nat_eq (sign_at tokens at) OPEN_BRACE

abbrev pub IsValued : List Token → Settings → ℕ → Bool → FinishWord → Statement Finish
IsValued tokens set depths true word finish at r = IsEnclosed tokens set depths word finish at r
IsValued tokens set depths false word finish at r = IsGiven tokens set word finish at r

abbrev pub finish_word : Option Word → Option FinishWord
finish_word (Some (Word.Finish word)) = Some word
finish_word other = None

-- a word of a finish, and its value
abbrev pub IsFinishPart : List Token → Settings → ℕ → Option FinishWord → Statement Finish
IsFinishPart tokens set depths (Some word) finish at r = IsValued tokens set depths (is_enclosed tokens word (at + 1)) word finish (at + 1) r
IsFinishPart tokens set depths None finish at r = r ≡ Err (unfit_at Wanted.CloseBrace tokens at)

abbrev pub is_finish : Option Word → Bool
is_finish (Some (Word.Block BlockWord.Finish)) = true
is_finish other = false

abbrev pub finish_kind : List Token → Settings → Kind Finish
finish_kind tokens set = record {
  leads = is_finish;
  first = λ depths led. IsNothing;
  statement = λ depths finish at r. IsFinishPart tokens set depths (finish_word (word_at tokens at)) finish at r;
  lacks = λ finish. None;
}
