-- Pigments: colours, patterns of colours, and colour maps. (Reference manual, pigment)
use Rattle.std.specs.Prelude.{◌≡◌, ℕ, ◌+◌, ℤ, pos, Bool, true, false, ◌||◌, ◌&&◌, nat_eq, nat_lt, int_le, List, [], ◌∷◌, ◌++◌, length, ◌-◌, slice_get, slice_index_or, if◌then◌else◌, Option, Some, None, Result, Ok, Err}
use Rattle.fix_math.specs.declared.fix.V3.{V3}
use Rattle.scene_lexer.specs.declared.sign.TheConstants.{OPEN_SQUARE, CLOSE_SQUARE, CLOSE_BRACE, COMMA}
use Rattle.scene_lexer.specs.declared.token.Place.{Place}
use Rattle.scene_lexer.specs.declared.token.Token.{Token}
use Rattle.scene_expr.specs.declared.value.Settings.{Settings}
use Rattle.scene_expr.specs.declared.value.Value.{Value}
use Rattle.scene_expr.specs.Heads.{place_at, sign_at}
use Rattle.scene_expr.specs.Then.{IsThen, Is}
use Rattle.scene_model.specs.declared.texture.Entry.{Entry}
use Rattle.xform.specs.declared.transform.Xform.{Xform}
use Rattle.xform.specs.Transforms.{start_of}
use Rattle.item_blocks.specs.declared.fault.ParseFault.{ParseFault}
use Rattle.item_blocks.specs.declared.fault.Wanted.{Wanted}
use Rattle.item_blocks.specs.declared.pigment_parts.Beginning.{Beginning}
use Rattle.item_blocks.specs.declared.patterns.Paint.{Paint}
use Rattle.item_blocks.specs.declared.pigment_parts.PigmentPart.{PigmentPart}
use Rattle.item_blocks.specs.declared.pigment.PigmentDraft.{PigmentDraft}
use Rattle.item_blocks.specs.declared.words.BlockWord.{BlockWord}
use Rattle.item_blocks.specs.declared.words.PatternWord.{PatternWord}
use Rattle.item_blocks.specs.declared.words.PigmentWord.{PigmentWord}
use Rattle.item_blocks.specs.declared.words.Word.{Word}
use Rattle.item_blocks.specs.Tokens.{word_at, unfit_at, passed, behind_comma, Behind, Reading}
use Rattle.item_blocks.specs.Parameters.{float_of, any_float_of, any_vector_of, vector_of, colour_of, in_range, IsParameter}
use Rattle.item_blocks.specs.Steps.{IsMovedIn}
use Rattle.item_blocks.specs.Blocks.{Statement, Kind, IsNothing, IsBlock}
use Rattle.item_blocks.specs.Finishes.{on_ok}

-- ---- colour maps: entries in ascending order, at most 256

-- where the last entry stands, if there is one
abbrev pub at_of : Option Entry → Option ℤ
at_of None = None
at_of (Some entry) = Some entry.at

abbrev pub last_at : List Entry → Option ℤ
last_at entries = at_of (slice_get entries (length entries - 1))

abbrev pub is_behind : Option ℤ → ℤ → Bool
is_behind None at = true
is_behind (Some before) at = int_le before at

abbrev pub ascending : List Entry → Place → Result ℤ ParseFault → Result ℤ ParseFault
ascending entries place (Ok at) = in_range (is_behind (last_at entries) at) at place
ascending entries place (Err f) = Err f

-- a place in a map isn't below the one before it
abbrev pub ascending_of : List Entry → Value → Place → Result ℤ ParseFault
ascending_of entries value place = ascending entries place (any_float_of value place)

-- the opening bracket of an entry; the 257th passes limit 9
abbrev pub entry_opened : List Token → ℕ → ℕ → Result ℕ ParseFault
entry_opened tokens count at =
    if nat_eq (sign_at tokens at) OPEN_SQUARE
    then (if nat_lt count 256 then Ok (at + 1) else Err (ParseFault.Limit 9 (place_at tokens at)))
    else Err (unfit_at Wanted.MapBracket tokens at)

abbrev pub IsEntry : List Token → Settings → Statement (List Entry)
IsEntry tokens set entries at r =
    IsThen ℕ (Behind (List Entry)) ParseFault (Is (entry_opened tokens (length entries) at)) (λ start.
    IsThen (Behind ℤ) (Behind (List Entry)) ParseFault (IsParameter ℤ (ascending_of entries) tokens set start) (λ place.
    IsThen (Behind (List ℤ)) (Behind (List Entry)) ParseFault (IsParameter (List ℤ) colour_of tokens set (behind_comma tokens place.next)) (λ colour.
    IsThen ℕ (Behind (List Entry)) ParseFault (Is (passed CLOSE_SQUARE Wanted.MapBracket tokens colour.next)) (λ next.
    Is (Ok (record { value = entries ++ record { at = place.value; colour = colour.value } ∷ []; next = next })))))) r

abbrev pub is_map : Option Word → Bool
is_map (Some (Word.Block BlockWord.ColourMap)) = true
is_map other = false

-- a map has an entry
abbrev pub map_lacks : List Entry → Option Wanted
map_lacks [] = Some Wanted.MapBracket
map_lacks (entry ∷ entries) = None

abbrev pub map_kind : List Token → Settings → Kind (List Entry)
map_kind tokens set = record {
  leads = is_map;
  first = λ depths led. IsNothing;
  statement = λ depths. IsEntry tokens set;
  lacks = map_lacks;
}

-- ---- what stands first: a colour, or a pattern of colours

abbrev pub rgb : ℤ → ℤ → ℤ → List ℤ
rgb r g b = r ∷ g ∷ b ∷ pos 0 ∷ pos 0 ∷ []

abbrev pub black : List ℤ
black = rgb (pos 0) (pos 0) (pos 0)

-- a pigment of which nothing is said: black, with bricks of <8, 3, 4.5> and mortar of 0.5
abbrev pub plain_pigment : PigmentDraft
plain_pigment = record { paint = Paint.Plain black; map = []; brick_size = record { x = pos 524288; y = pos 196608; z = pos 294912 }; mortar = pos 32768; xform = start_of }

-- what may stand behind the colours
abbrev pub pigment_part : Option Word → PigmentPart
pigment_part (Some (Word.Block BlockWord.ColourMap)) = PigmentPart.Map
pigment_part (Some (Word.Block BlockWord.Transform)) = PigmentPart.Move
pigment_part (Some (Word.Step word)) = PigmentPart.Move
pigment_part (Some (Word.Pigment word)) = PigmentPart.Parameter word
pigment_part other = PigmentPart.Other

abbrev pub is_part : PigmentPart → Bool
is_part PigmentPart.Other = false
is_part part = true

-- whether no colour follows
abbrev pub is_through : List Token → ℕ → Bool
is_through tokens at = nat_eq (sign_at tokens at) CLOSE_BRACE || is_part (pigment_part (word_at tokens at))

-- where a further colour begins, if there is one: behind a comma one must
abbrev pub colour_start : Bool → List Token → ℕ → Option ℕ
colour_start divided tokens at =
    if divided && nat_eq (sign_at tokens at) COMMA then Some (at + 1)
    else (if is_through tokens at then None else Some at)

-- a colour, or the one that stands for it where it is left out
abbrev pub IsColourElse : List Token → Settings → Option ℕ → Statement (List ℤ)
IsColourElse tokens set (Some start) colour at r = IsParameter (List ℤ) colour_of tokens set start r
IsColourElse tokens set None colour at r = r ≡ Ok (record { value = colour; next = at })

abbrev pub IsFirstColour : List Token → Settings → Statement (List ℤ)
IsFirstColour tokens set colour at r = IsColourElse tokens set (colour_start false tokens at) colour at r

abbrev pub IsNextColour : List Token → Settings → Statement (List ℤ)
IsNextColour tokens set colour at r = IsColourElse tokens set (colour_start true tokens at) colour at r

-- two colours, and three
abbrev pub IsTwo : List Token → Settings → List ℤ → List ℤ → Reading (List (List ℤ))
IsTwo tokens set a b at r =
    IsThen (Behind (List ℤ)) (Behind (List (List ℤ))) ParseFault (IsFirstColour tokens set a at) (λ first.
    IsThen (Behind (List ℤ)) (Behind (List (List ℤ))) ParseFault (IsNextColour tokens set b first.next) (λ second.
    Is (Ok (record { value = first.value ∷ second.value ∷ []; next = second.next })))) r

abbrev pub IsThree : List Token → Settings → List ℤ → List ℤ → List ℤ → Reading (List (List ℤ))
IsThree tokens set a b c at r =
    IsThen (Behind (List ℤ)) (Behind (List (List ℤ))) ParseFault (IsFirstColour tokens set a at) (λ first.
    IsThen (Behind (List ℤ)) (Behind (List (List ℤ))) ParseFault (IsNextColour tokens set b first.next) (λ second.
    IsThen (Behind (List ℤ)) (Behind (List (List ℤ))) ParseFault (IsNextColour tokens set c second.next) (λ third.
    Is (Ok (record { value = first.value ∷ second.value ∷ third.value ∷ []; next = third.next }))))) r

-- ---- the colours that stand where a pattern has none

abbrev pub blue : List ℤ
blue = rgb (pos 0) (pos 0) (pos 65536)

abbrev pub green : List ℤ
green = rgb (pos 0) (pos 65536) (pos 0)

abbrev pub red : List ℤ
red = rgb (pos 65536) (pos 0) (pos 0)

-- <0.5, 0.5, 0.5> and <0.6, 0.15, 0.15>
abbrev pub mortar_grey : List ℤ
mortar_grey = rgb (pos 32768) (pos 32768) (pos 32768)

abbrev pub brick_red : List ℤ
brick_red = rgb (pos 39322) (pos 9830) (pos 9830)

abbrev pub IsPattern : List Token → Settings → PatternWord → Reading Paint
IsPattern tokens set PatternWord.Checker at r =
    IsThen (Behind (List (List ℤ))) (Behind Paint) ParseFault (IsTwo tokens set blue green at) (λ c. Is (Ok (record { value = Paint.Checker c.value; next = c.next }))) r
IsPattern tokens set PatternWord.Brick at r =
    IsThen (Behind (List (List ℤ))) (Behind Paint) ParseFault (IsTwo tokens set mortar_grey brick_red at) (λ c. Is (Ok (record { value = Paint.Brick c.value; next = c.next }))) r
IsPattern tokens set PatternWord.Hexagon at r =
    IsThen (Behind (List (List ℤ))) (Behind Paint) ParseFault (IsThree tokens set blue green red at) (λ c. Is (Ok (record { value = Paint.Hexagon c.value; next = c.next }))) r
IsPattern tokens set PatternWord.Gradient at r =
    IsThen (Behind V3) (Behind Paint) ParseFault (IsParameter V3 any_vector_of tokens set at) (λ axis. Is (Ok (record { value = Paint.Gradient axis.value; next = axis.next }))) r

-- what a pigment begins with
abbrev pub begins_by : Bool → Option Word → Beginning
begins_by through (Some (Word.Pattern word)) = Beginning.Pattern word
begins_by true other = Beginning.Neither
begins_by false other = Beginning.Colour

abbrev pub is_pattern : Beginning → Bool
is_pattern (Beginning.Pattern word) = true
is_pattern other = false

abbrev pub beginning_at : List Token → ℕ → Beginning
beginning_at tokens at = begins_by (is_through tokens at) (word_at tokens at)

abbrev pub IsPainted : List Token → Settings → Beginning → Statement PigmentDraft
IsPainted tokens set (Beginning.Pattern word) draft at r =
    IsThen (Behind Paint) (Behind PigmentDraft) ParseFault (IsPattern tokens set word (at + 1)) (λ paint. Is (Ok (record { value = record draft { paint = paint.value }; next = paint.next }))) r
IsPainted tokens set Beginning.Colour draft at r =
    IsThen (Behind (List ℤ)) (Behind PigmentDraft) ParseFault (IsParameter (List ℤ) colour_of tokens set at) (λ colour. Is (Ok (record { value = record draft { paint = Paint.Plain colour.value }; next = colour.next }))) r
IsPainted tokens set Beginning.Neither draft at r = r ≡ Ok (record { value = draft; next = at })

-- ---- what stands behind: a map, which replaces the one before, sizes of bricks, and steps

abbrev pub most : ℤ
most = pos 140737488355327

-- bricks have a size above 0 along each axis, and mortar a width
abbrev pub pigment_with : PigmentDraft → PigmentWord → Value → Place → Result PigmentDraft ParseFault
pigment_with draft PigmentWord.BrickSize value place = on_ok (vector_of (pos 1) most value place) (λ v. record draft { brick_size = v })
pigment_with draft PigmentWord.Mortar value place = on_ok (float_of (pos 0) most value place) (λ a. record draft { mortar = a })

abbrev pub IsPigmentPart : List Token → Settings → ℕ → PigmentPart → Statement PigmentDraft
IsPigmentPart tokens set depths PigmentPart.Map draft at r =
    IsThen (Behind (List Entry)) (Behind PigmentDraft) ParseFault (IsBlock (map_kind tokens set) tokens depths [] (at + 1)) (λ map.
    Is (Ok (record { value = record draft { map = map.value }; next = map.next }))) r
IsPigmentPart tokens set depths (PigmentPart.Parameter word) draft at r = IsParameter PigmentDraft (pigment_with draft word) tokens set (at + 1) r
IsPigmentPart tokens set depths PigmentPart.Move draft at r =
    IsThen (Behind (List Xform)) (Behind PigmentDraft) ParseFault (IsMovedIn tokens set depths (draft.xform ∷ []) at) (λ moved.
    Is (Ok (record { value = record draft { xform = slice_index_or moved.value 0 draft.xform }; next = moved.next }))) r
IsPigmentPart tokens set depths PigmentPart.Other draft at r = r ≡ Err (unfit_at Wanted.CloseBrace tokens at)

abbrev pub is_pigment : Option Word → Bool
is_pigment (Some (Word.Block BlockWord.Pigment)) = true
is_pigment other = false

abbrev pub pigment_kind : List Token → Settings → Kind PigmentDraft
pigment_kind tokens set = record {
  leads = is_pigment;
  first = λ depths led draft at r. IsPainted tokens set (beginning_at tokens at) draft at r;
  statement = λ depths draft at r. IsPigmentPart tokens set depths (pigment_part (word_at tokens at)) draft at r;
  lacks = λ draft. None;
}
