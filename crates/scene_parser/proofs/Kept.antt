-- Settings, backgrounds and defaults that are read are sound: their statements keep their values in their ranges.
use Rattle.std.proofs.Common.{◌≡◌, ◌≤◌, ◌+◌, ◌*◌, ℕ, ℤ, pos, List, Option, Some, None, true, Ok, arith, unsigned_abs}
use Rattle.std.specs.Prelude.{IfOk, ⊤}
use Rattle.std.proofs.lemmas.Int.{ints}
use Rattle.fix_math.specs.Floor.{rnd_within, rnd_at_least}
use Rattle.scene_lexer.specs.declared.token.Place.{Place}
use Rattle.scene_lexer.specs.declared.token.Token.{Token as TextToken}
use Rattle.scene_expr.specs.declared.value.Settings.{Settings}
use Rattle.scene_expr.specs.declared.value.Value.{Value}
use Rattle.scene_model.specs.Amounts.{IsAmount, AreAmounts, IsRgb}
use Rattle.item_blocks.specs.declared.look.LookPart.{LookPart}
use Rattle.item_blocks.specs.declared.words.GlobalWord.{GlobalWord}
use Rattle.item_blocks.specs.Blocks.{IsBlock}
use Rattle.item_blocks.specs.Parameters.{is_between, float_in, float_of, light_of}
use Rattle.item_blocks.specs.Sound.{IsSoundMaterial}
use Rattle.item_blocks.specs.SoundBlocks.{look_kept}
use Rattle.item_blocks.specs.SoundLaws.{kept_then, kept_ok, kept_parameter, Keeps, kept_same, kept_refused, kept_block, kept_checked, kept_float, kept_rgb, between}
use Rattle.scene_parser.specs.declared.default.DefaultTexture.{DefaultTexture}
use Rattle.scene_parser.specs.declared.global.Globals.{Globals}
use Rattle.scene_parser.specs.Defaults.{default_kind, IsDefaultPart}
use Rattle.scene_parser.specs.Globals.{plain_globals, nearest_of, globals_with, globals_kind, IsSetting, IsBackground}
use Rattle.scene_parser.specs.Sound.{IsSoundGlobals}

amount : (most n : ℕ) → n ≤ most → IsAmount most (pos n)
amount most n le = record { low = omega (arith, ints); high = le }

-- ---- settings

pub plain_globals_sound : IsSoundGlobals plain_globals
plain_globals_sound = record {
  ambient_light = record { first = amount 16777216 65536 (omega arith); second = amount 16777216 65536 (omega arith); third = amount 16777216 65536 (omega arith) };
  levels_low = omega arith;
  levels_high = omega arith;
  adc = amount 65536 257 (omega arith);
}

record IsLevel (a : ℤ) : Type 0 where
  low : 1 ≤ nearest_of a
  high : nearest_of a ≤ 64

level : (a : ℤ) → is_between (pos 65536) (pos 4194304) a ≡ true → IsLevel a
level a inside =
    let k = between (pos 65536) (pos 4194304) a inside in
    let low : 1 * 65536 ≤ unsigned_abs a = omega (arith, ints, k.0) in
    let high : unsigned_abs a ≤ 64 * 65536 = omega (arith, ints, k.0, k.1) in
    record { low = rnd_at_least a 65536 1 (omega arith) low; high = rnd_within a 65536 64 (omega arith) high }

any_gamma : (value : Value) (place : Place) → IfOk (float_of (pos 65536) (pos 65536) value place) (λ a. ⊤)
any_gamma value place = kept_checked (λ a. ⊤) (is_between (pos 65536) (pos 65536)) (float_in value) place (λ a is. tt)

kept_globals_with : (globals : Globals) (word : GlobalWord) (value : Value) (place : Place) → IsSoundGlobals globals → IfOk (globals_with globals word value place) IsSoundGlobals
kept_globals_with globals GlobalWord.AssumedGamma value place s =
    kept_ok (λ a. ⊤) IsSoundGlobals (float_of (pos 65536) (pos 65536) value place) _ (any_gamma value place) (λ a is. s)
kept_globals_with globals GlobalWord.MaxTraceLevel value place s =
    kept_ok IsLevel IsSoundGlobals (float_of (pos 65536) (pos 4194304) value place) _ (kept_checked IsLevel (is_between (pos 65536) (pos 4194304)) (float_in value) place level) (λ a is. record { ambient_light = s.ambient_light; levels_low = is.low; levels_high = is.high; adc = s.adc })
kept_globals_with globals GlobalWord.AmbientLight value place s =
    kept_ok (AreAmounts 16777216) IsSoundGlobals (light_of value place) _ (kept_rgb 16777216 value place) (λ c is. record { ambient_light = is; levels_low = s.levels_low; levels_high = s.levels_high; adc = s.adc })
kept_globals_with globals GlobalWord.AdcBailout value place s =
    kept_ok (IsAmount 65536) IsSoundGlobals (float_of (pos 0) (pos 65536) value place) _ (kept_float 65536 value place) (λ a is. record { ambient_light = s.ambient_light; levels_low = s.levels_low; levels_high = s.levels_high; adc = is })

module _ (tokens : List TextToken) (set : Settings) where
  kept_setting : (word : Option GlobalWord) → Keeps IsSoundGlobals (IsSetting tokens set word)
  kept_setting (Some word) globals at r s read = kept_parameter IsSoundGlobals (globals_with globals word) tokens set (at + 1) r (λ value place. kept_globals_with globals word value place s) read
  kept_setting None globals at r s read = kept_refused IsSoundGlobals _ r read

  pub globals_kept : (depths : ℕ) → Keeps IsSoundGlobals (IsBlock (globals_kind tokens set) tokens depths)
  globals_kept = kept_block IsSoundGlobals (globals_kind tokens set) tokens (λ depths led globals at r s read. kept_same IsSoundGlobals globals at r s read) (λ depths globals at r s read. kept_setting _ globals at r s read)

  -- ---- backgrounds

  pub background_kept : (depths at : ℕ) (colour : List ℤ) (next : ℕ) → IsBackground tokens set depths at (Ok (record { value = colour; next = next })) → IsRgb colour
  background_kept depths at colour next read =
      kept_then (λ b. IsRgb b.value) read (λ start opens more.
      kept_then (λ b. IsRgb b.value) more (λ c is_c more.
      kept_then (λ b. IsRgb b.value) more (λ end closes is.
      kept_same IsRgb c.value end _ (kept_parameter (AreAmounts 16777216) light_of tokens set start (Ok c) (kept_rgb 16777216) is_c) is)))

  -- ---- defaults

  abbrev IsSoundDefault : DefaultTexture → Type 0
  IsSoundDefault default = IsSoundMaterial default.looks

  kept_default_part : (depths : ℕ) (part : Option LookPart) → Keeps IsSoundDefault (IsDefaultPart tokens set depths part)
  kept_default_part depths (Some part) default at r s read =
      kept_then (λ b. IsSoundDefault b.value) read (λ looks is_looks is.
      kept_same IsSoundDefault _ looks.next r (look_kept tokens set depths part default.looks at (Ok looks) s is_looks) is)
  kept_default_part depths None default at r s read = kept_refused IsSoundDefault _ r read

  pub default_kept : (depths : ℕ) → Keeps IsSoundDefault (IsBlock (default_kind tokens set) tokens depths)
  default_kept = kept_block IsSoundDefault (default_kind tokens set) tokens (λ depths led default at r s read. kept_same IsSoundDefault default at r s read) (λ depths default at r s read. kept_default_part depths _ default at r s read)
