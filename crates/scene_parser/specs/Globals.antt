-- What is said of a whole scene: its settings, and its background. (Reference manual, global_settings and background)
use Rattle.std.specs.Prelude.{◌≡◌, ℕ, ◌+◌, ℤ, pos, false, unsigned_abs, List, [], ◌∷◌, Option, Some, None, Result, Ok, Err}
use Rattle.fix_math.specs.Numbers.{rnd}
use Rattle.scene_lexer.specs.declared.sign.TheConstants.{CLOSE_BRACE}
use Rattle.scene_lexer.specs.declared.token.Place.{Place}
use Rattle.scene_lexer.specs.declared.token.Token.{Token}
use Rattle.scene_expr.specs.declared.value.Settings.{Settings}
use Rattle.scene_expr.specs.declared.value.Value.{Value}
use Rattle.scene_expr.specs.Then.{IsThen, Is}
use Rattle.item_blocks.specs.declared.fault.ParseFault.{ParseFault}
use Rattle.item_blocks.specs.declared.fault.Wanted.{Wanted}
use Rattle.item_blocks.specs.declared.words.GlobalWord.{GlobalWord}
use Rattle.item_blocks.specs.declared.words.Word.{Word}
use Rattle.item_blocks.specs.Tokens.{word_at, unfit_at, opened, passed, Behind, Reading}
use Rattle.item_blocks.specs.Parameters.{float_of, light_of, IsParameter}
use Rattle.item_blocks.specs.Blocks.{Statement, Kind, IsNothing}
use Rattle.item_blocks.specs.Finishes.{on_ok}
use Rattle.scene_parser.specs.declared.global.Globals.{Globals}

-- ---- meaning

-- white light, 5 levels, and a weight of 1/255
abbrev pub plain_globals : Globals
plain_globals = record { ambient_light = pos 65536 ∷ pos 65536 ∷ pos 65536 ∷ []; levels = 5; adc = pos 257 }

-- the nearest whole number
abbrev pub nearest_of : ℤ → ℕ
nearest_of value = unsigned_abs (rnd value (pos 65536))

-- what a word makes of the value behind it: a gamma of 1 says nothing, and there are 1 to 64 levels
abbrev pub globals_with : Globals → GlobalWord → Value → Place → Result Globals ParseFault
globals_with globals GlobalWord.AssumedGamma value place = on_ok (float_of (pos 65536) (pos 65536) value place) (λ a. globals)
globals_with globals GlobalWord.MaxTraceLevel value place = on_ok (float_of (pos 65536) (pos 4194304) value place) (λ a. record globals { levels = nearest_of a })
globals_with globals GlobalWord.AmbientLight value place = on_ok (light_of value place) (λ c. record globals { ambient_light = c })
globals_with globals GlobalWord.AdcBailout value place = on_ok (float_of (pos 0) (pos 65536) value place) (λ a. record globals { adc = a })

-- ---- grammar

abbrev pub global_word : Option Word → Option GlobalWord
global_word (Some (Word.Global word)) = Some word
global_word other = None

-- a setting, from its word on
abbrev pub IsSetting : List Token → Settings → Option GlobalWord → Statement Globals
IsSetting tokens set (Some word) globals at r = IsParameter Globals (globals_with globals word) tokens set (at + 1) r
IsSetting tokens set None globals at r = r ≡ Err (unfit_at Wanted.CloseBrace tokens at)

abbrev pub globals_kind : List Token → Settings → Kind Globals
globals_kind tokens set = record {
  leads = λ word. false;
  first = λ depths led. IsNothing;
  statement = λ depths globals at r. IsSetting tokens set (global_word (word_at tokens at)) globals at r;
  lacks = λ globals. None;
}

-- the colour of the background between braces
abbrev pub IsBackground : List Token → Settings → ℕ → Reading (List ℤ)
IsBackground tokens set depths at r =
    IsThen ℕ (Behind (List ℤ)) ParseFault (Is (opened tokens depths at)) (λ start.
    IsThen (Behind (List ℤ)) (Behind (List ℤ)) ParseFault (IsParameter (List ℤ) light_of tokens set start) (λ colour.
    IsThen ℕ (Behind (List ℤ)) ParseFault (Is (passed CLOSE_BRACE Wanted.CloseBrace tokens colour.next)) (λ next.
    Is (Ok (record { value = colour.value; next = next }))))) r
