-- The default texture: what objects look like of which nothing is said. (Reference manual, #default)
use Rattle.std.specs.Prelude.{◌≡◌, ℕ, false, List, Option, Some, None, Ok, Err}
use Rattle.scene_lexer.specs.declared.token.Token.{Token}
use Rattle.scene_expr.specs.declared.value.Settings.{Settings}
use Rattle.scene_expr.specs.Then.{IsThen, Is}
use Rattle.item_blocks.specs.declared.fault.ParseFault.{ParseFault}
use Rattle.item_blocks.specs.declared.fault.Wanted.{Wanted}
use Rattle.item_blocks.specs.declared.look.LookPart.{LookPart}
use Rattle.item_blocks.specs.declared.texture.MaterialDraft.{MaterialDraft}
use Rattle.item_blocks.specs.Tokens.{word_at, unfit_at, Behind}
use Rattle.item_blocks.specs.Blocks.{Statement, Kind, IsNothing}
use Rattle.item_blocks.specs.Looks.{look_part, IsLook}
use Rattle.item_blocks.specs.Textures.{no_material}
use Rattle.scene_parser.specs.declared.default.DefaultTexture.{DefaultTexture}

abbrev pub plain_default : DefaultTexture
plain_default = record { looks = no_material }

-- of the looks of an object, a default has texture, pigment and finish alone
abbrev pub default_look : Option LookPart → Option LookPart
default_look (Some LookPart.Interior) = None
default_look (Some LookPart.Material) = None
default_look other = other

abbrev pub IsDefaultPart : List Token → Settings → ℕ → Option LookPart → Statement DefaultTexture
IsDefaultPart tokens set depths (Some part) default at r =
    IsThen (Behind MaterialDraft) (Behind DefaultTexture) ParseFault (IsLook tokens set depths part default.looks at) (λ looks.
    Is (Ok (record { value = record { looks = looks.value }; next = looks.next }))) r
IsDefaultPart tokens set depths None default at r = r ≡ Err (unfit_at Wanted.CloseBrace tokens at)

abbrev pub default_kind : List Token → Settings → Kind DefaultTexture
default_kind tokens set = record {
  leads = λ word. false;
  first = λ depths led. IsNothing;
  statement = λ depths default at r. IsDefaultPart tokens set depths (default_look (look_part (word_at tokens at))) default at r;
  lacks = λ default. None;
}
