-- A block comes to one outcome: each way to read it does, where its parts do.
use Rattle.std.specs.Prelude.{ℕ, zero, suc, ◌+◌, ◌-◌, ℤ, ◌≡◌, Bool, true, false, nat_eq, List, [], ◌∷◌, ◌++◌, drop, Option, Some, None, Result, Ok, Err, refl}
use Rattle.std.proofs.Common.{subst, sym, ap, ◌∙◌}
use Rattle.fix_math.specs.declared.fix.V3.{V3}
use Rattle.scene_lexer.specs.declared.token.Place.{Place}
use Rattle.scene_lexer.specs.declared.token.Token.{Token}
use Rattle.scene_expr.specs.declared.value.Level.{Level}
use Rattle.scene_expr.specs.declared.value.Settings.{Settings}
use Rattle.scene_expr.specs.declared.value.Value.{Value}
use Rattle.scene_expr.specs.Heads.{sign_at}
use Rattle.scene_expr.specs.OneValue.{one_value}
use Rattle.scene_expr.specs.Then.{IsThen, IsOne, one_is, then_fault, then_found, one_then}
use Rattle.scene_model.specs.declared.texture.Finish.{Finish}
use Rattle.item_blocks.specs.declared.fault.ParseFault.{ParseFault}
use Rattle.item_blocks.specs.declared.fault.Wanted.{Wanted}
use Rattle.item_blocks.specs.declared.look.LookPart.{LookPart}
use Rattle.item_blocks.specs.declared.pigment_parts.Beginning.{Beginning}
use Rattle.item_blocks.specs.declared.pigment.PigmentDraft.{PigmentDraft}
use Rattle.item_blocks.specs.declared.pigment_parts.PigmentPart.{PigmentPart}
use Rattle.item_blocks.specs.declared.steps.StepPart.{StepPart}
use Rattle.item_blocks.specs.declared.texture.Interior.{Interior}
use Rattle.item_blocks.specs.declared.texture.MaterialPart.{MaterialPart}
use Rattle.item_blocks.specs.declared.texture.TexturePart.{TexturePart}
use Rattle.item_blocks.specs.declared.words.FinishWord.{FinishWord}
use Rattle.item_blocks.specs.declared.words.PatternWord.{PatternWord}
use Rattle.item_blocks.specs.declared.words.StepWord.{StepWord}
use Rattle.item_blocks.specs.Tokens.{unknown_in, fault_of, behind_comma, Behind, IsExpression}
use Rattle.item_blocks.specs.Parameters.{any_vector_of, any_float_of, colour_of, IsParameter}
use Rattle.item_blocks.specs.Blocks.{Statement, Kind, closed, IsStatements, IsLed, IsBraced, IsOwn, IsBlock}
use Rattle.item_blocks.specs.Steps.{Moving, IsNumbers, IsStep, IsMoved, IsInside, IsMovedIn}
use Rattle.item_blocks.specs.Finishes.{finish_with, IsValued, IsFinishPart, finish_kind}
use Rattle.item_blocks.specs.Pigments.{ascending_of, pigment_with, IsEntry, map_kind, IsColourElse, IsTwo, IsThree, IsPattern, IsPainted, IsPigmentPart, pigment_kind}
use Rattle.item_blocks.specs.Textures.{IsShifted, IsTexturePart, texture_kind, interior_with, IsInteriorPart, interior_kind, IsMaterialPart, material_kind}
use Rattle.item_blocks.specs.Looks.{IsLook}

-- what comes to one outcome at most from each state and token on
abbrev pub IsOneStatement : {S : Type 0} → Statement S → Type 0
IsOneStatement {S} statement = (s : S) (at : ℕ) → IsOne (statement s at)

-- ---- statements up to a brace

module _ {S : Type 0} (tokens : List Token) (statement : Statement S) (lacks : S → Option Wanted) (one : IsOneStatement statement) where
  -- what comes of a state, by whether the brace stands here
  abbrev IsByBrace : Bool → Statement S
  IsByBrace true s at r = r ≡ closed tokens (lacks s) s at
  IsByBrace false s at r = IsThen (Behind S) (Behind S) ParseFault (statement s at) (λ more. IsStatements tokens statement lacks more.value more.next) r

  statement_parts : (s : S) (at : ℕ) (shut : Bool) (r : Result (Behind S) ParseFault) → nat_eq (sign_at tokens at) 125 ≡ shut → IsStatements tokens statement lacks s at r → IsByBrace shut s at r
  statement_parts s at shut r e (IsStatements.ends _ _ is) = subst (λ b. IsByBrace b s at r) (sym is ∙ e) refl
  statement_parts s at shut r e (IsStatements.fault _ _ f is p) = subst (λ b. IsByBrace b s at r) (sym is ∙ e) (IsThen.fault f p)
  statement_parts s at shut r e (IsStatements.further _ _ more _ is p rest) = subst (λ b. IsByBrace b s at r) (sym is ∙ e) (IsThen.found more r p rest)

  one_statements : IsOneStatement (IsStatements tokens statement lacks)
  one_statements s at r q (IsStatements.ends _ _ is) x = sym (statement_parts s at true q is x)
  one_statements s at r q (IsStatements.fault _ _ f is p) x = then_fault (one s at) f p (statement_parts s at false q is x)
  one_statements s at r q (IsStatements.further _ _ more _ is p rest) x =
      one_statements more.value more.next r q rest (then_found (one s at) more p (statement_parts s at false q is x))

-- ---- blocks

one_led : {S : Type 0} (leads : Bool) (inside : Statement S) → IsOneStatement inside → IsOneStatement (IsLed leads inside)
one_led true inside one s at = one s (at + 1)
one_led false inside one s at = one_is _

one_braced : {S : Type 0} (kind : Kind S) (tokens : List Token) → ((depths : ℕ) (led : Bool) → IsOneStatement (kind.first depths led)) → ((depths : ℕ) → IsOneStatement (kind.statement depths)) → (depths : ℕ) (inside : Statement S) → IsOneStatement inside → IsOneStatement (IsBraced kind tokens depths inside)
one_braced kind tokens first statement depths inside one s at =
    one_then (one_is _) (λ start. one_then (one_led _ inside one s start) (λ led. one_then (first _ _ led.value led.next) (λ begun.
    one_statements tokens (kind.statement (depths - 1)) kind.lacks (statement _) begun.value begun.next)))

one_own : {S : Type 0} (kind : Kind S) (tokens : List Token) → ((depths : ℕ) (led : Bool) → IsOneStatement (kind.first depths led)) → ((depths : ℕ) → IsOneStatement (kind.statement depths)) → (depths : ℕ) → IsOneStatement (IsOwn kind tokens depths)
unfolding IsOwn
one_own kind tokens first statement zero s at = λ r q x y. absurd x
one_own kind tokens first statement (suc depths) s at = one_braced kind tokens first statement depths (IsOwn kind tokens depths) (one_own kind tokens first statement depths) s at

pub one_block : {S : Type 0} (kind : Kind S) (tokens : List Token) → ((depths : ℕ) (led : Bool) → IsOneStatement (kind.first depths led)) → ((depths : ℕ) → IsOneStatement (kind.statement depths)) → (depths : ℕ) → IsOneStatement (IsBlock kind tokens depths)
one_block kind tokens first statement depths s at = one_braced kind tokens first statement depths (IsOwn kind tokens depths) (one_own kind tokens first statement depths) s at

module _ (tokens : List Token) (set : Settings) where
  -- ---- parameters

  pub one_expression : (at : ℕ) → IsOne (IsExpression tokens set at)
  one_expression at (Ok a) (Ok b) p q = let same : a ≡ b = cc (one_value tokens set Level.Sum at (Ok a) (Ok b) p q) in ap (λ read. Ok read) same
  one_expression at (Ok a) (Err y) p q = absurd (cc (one_value tokens set Level.Sum at (Ok a) (Err q.0) p q.1))
  one_expression at (Err x) (Ok b) p q = absurd (cc (one_value tokens set Level.Sum at (Err p.0) (Ok b) p.1 q))
  one_expression at (Err x) (Err y) p q =
      let same : p.0 ≡ q.0 = cc (one_value tokens set Level.Sum at (Err p.0) (Err q.0) p.1 q.1) in
      ap (λ f. Err f) (p.2 ∙ ap (fault_of (unknown_in (drop at tokens))) same ∙ sym q.2)

  pub one_parameter : (A : Type 0) (meaning : Value → Place → Result A ParseFault) (at : ℕ) → IsOne (IsParameter A meaning tokens set at)
  one_parameter A meaning at = one_then (one_expression at) (λ read. one_is _)

  -- ---- steps

  one_numbers : (count : ℕ) (before : List ℤ) (at : ℕ) → IsOne (IsNumbers tokens set count before at)
  one_numbers zero before at = one_is _
  one_numbers (suc more) before at =
      one_then (one_parameter ℤ any_float_of at) (λ number. one_then (one_is _) (λ next. one_numbers more (before ++ number.value ∷ []) next))

  one_step : (word : StepWord) (at : ℕ) → IsOne (IsStep tokens set word at)
  one_step (StepWord.Vector kind) at = one_then (one_parameter V3 any_vector_of at) (λ v. one_is _)
  one_step StepWord.Matrix at = one_then (one_is _) (λ start. one_then (one_numbers 12 [] start) (λ numbers. one_then (one_is _) (λ next. one_is _)))

  one_moving : (depths : ℕ) (inside : Moving) → IsOneStatement inside → (part : StepPart) → IsOneStatement (IsMoved tokens set depths inside part)
  one_moving depths inside one (StepPart.One word) xforms at = one_then (one_step word (at + 1)) (λ step. one_is _)
  one_moving depths inside one StepPart.Many xforms at = one_then (one_is _) (λ start. one_statements tokens inside (λ xforms. None) one xforms start)
  one_moving depths inside one StepPart.Neither xforms at = one_is _

  one_inside : (depths : ℕ) → IsOneStatement (IsInside tokens set depths)
  unfolding IsInside
  one_inside zero xforms at = λ r q x y. absurd x
  one_inside (suc depths) xforms at = one_moving depths (IsInside tokens set depths) (one_inside depths) _ xforms at

  pub one_moved : (depths : ℕ) → IsOneStatement (IsMovedIn tokens set depths)
  one_moved depths xforms at = one_moving depths (IsInside tokens set depths) (one_inside depths) _ xforms at

  -- ---- finishes

  one_valued : (depths : ℕ) (enclosed : Bool) (word : FinishWord) → IsOneStatement (IsValued tokens set depths enclosed word)
  one_valued depths true word finish at = one_then (one_is _) (λ start. one_then (one_parameter Finish (finish_with finish word) start) (λ given. one_then (one_is _) (λ next. one_is _)))
  one_valued depths false word finish at = one_parameter Finish (finish_with finish word) at

  one_finish_part : (depths : ℕ) (word : Option FinishWord) → IsOneStatement (IsFinishPart tokens set depths word)
  one_finish_part depths (Some word) finish at = one_valued depths _ word finish (at + 1)
  one_finish_part depths None finish at = one_is _

  pub one_finish : (depths : ℕ) → IsOneStatement (IsBlock (finish_kind tokens set) tokens depths)
  one_finish = one_block (finish_kind tokens set) tokens (λ depths led finish at. one_is _) (λ depths finish at. one_finish_part depths _ finish at)

  -- ---- pigments

  one_entry : IsOneStatement (IsEntry tokens set)
  one_entry entries at =
      one_then (one_is _) (λ start. one_then (one_parameter ℤ (ascending_of entries) start) (λ place. one_then (one_parameter (List ℤ) colour_of (behind_comma tokens place.next)) (λ colour. one_then (one_is _) (λ next. one_is _))))

  one_map : (depths : ℕ) → IsOneStatement (IsBlock (map_kind tokens set) tokens depths)
  one_map = one_block (map_kind tokens set) tokens (λ depths led entries at. one_is _) (λ depths. one_entry)

  one_colour_else : (start : Option ℕ) → IsOneStatement (IsColourElse tokens set start)
  one_colour_else (Some start) colour at = one_parameter (List ℤ) colour_of start
  one_colour_else None colour at = one_is _

  one_two : (a b : List ℤ) (at : ℕ) → IsOne (IsTwo tokens set a b at)
  one_two a b at = one_then (one_colour_else _ a at) (λ first. one_then (one_colour_else _ b first.next) (λ second. one_is _))

  one_three : (a b c : List ℤ) (at : ℕ) → IsOne (IsThree tokens set a b c at)
  one_three a b c at =
      one_then (one_colour_else _ a at) (λ first. one_then (one_colour_else _ b first.next) (λ second. one_then (one_colour_else _ c second.next) (λ third. one_is _)))

  one_pattern : (word : PatternWord) (at : ℕ) → IsOne (IsPattern tokens set word at)
  one_pattern PatternWord.Checker at = one_then (one_two _ _ at) (λ c. one_is _)
  one_pattern PatternWord.Brick at = one_then (one_two _ _ at) (λ c. one_is _)
  one_pattern PatternWord.Hexagon at = one_then (one_three _ _ _ at) (λ c. one_is _)
  one_pattern PatternWord.Gradient at = one_then (one_parameter V3 any_vector_of at) (λ axis. one_is _)

  one_painted : (beginning : Beginning) → IsOneStatement (IsPainted tokens set beginning)
  one_painted (Beginning.Pattern word) draft at = one_then (one_pattern word (at + 1)) (λ paint. one_is _)
  one_painted Beginning.Colour draft at = one_then (one_parameter (List ℤ) colour_of at) (λ colour. one_is _)
  one_painted Beginning.Neither draft at = one_is _

  one_pigment_part : (depths : ℕ) (part : PigmentPart) → IsOneStatement (IsPigmentPart tokens set depths part)
  one_pigment_part depths PigmentPart.Map draft at = one_then (one_map depths [] (at + 1)) (λ map. one_is _)
  one_pigment_part depths (PigmentPart.Parameter word) draft at = one_parameter PigmentDraft (pigment_with draft word) (at + 1)
  one_pigment_part depths PigmentPart.Move draft at = one_then (one_moved depths (draft.xform ∷ []) at) (λ moved. one_is _)
  one_pigment_part depths PigmentPart.Other draft at = one_is _

  pub one_pigment : (depths : ℕ) → IsOneStatement (IsBlock (pigment_kind tokens set) tokens depths)
  one_pigment = one_block (pigment_kind tokens set) tokens (λ depths led draft at. one_painted _ draft at) (λ depths draft at. one_pigment_part depths _ draft at)

  -- ---- textures, interiors and materials

  one_shifted : (depths : ℕ) (pigment : Option PigmentDraft) → IsOneStatement (IsShifted tokens set depths pigment)
  one_shifted depths None texture at = one_then (one_moved depths [] at) (λ moved. one_is _)
  one_shifted depths (Some pigment) texture at = one_then (one_pigment_part depths PigmentPart.Move pigment at) (λ moved. one_is _)

  one_texture_part : (depths : ℕ) (part : TexturePart) → IsOneStatement (IsTexturePart tokens set depths part)
  one_texture_part depths TexturePart.Pigment texture at = one_then (one_pigment depths _ (at + 1)) (λ pigment. one_is _)
  one_texture_part depths TexturePart.Finish texture at = one_then (one_finish depths _ (at + 1)) (λ finish. one_is _)
  one_texture_part depths TexturePart.Move texture at = one_shifted depths texture.pigment texture at
  one_texture_part depths TexturePart.Other texture at = one_is _

  pub one_texture : (depths : ℕ) → IsOneStatement (IsBlock (texture_kind tokens set) tokens depths)
  one_texture = one_block (texture_kind tokens set) tokens (λ depths led texture at. one_is _) (λ depths texture at. one_texture_part depths _ texture at)

  one_interior_part : (named : Bool) → IsOneStatement (IsInteriorPart tokens set named)
  one_interior_part true interior at = one_parameter Interior interior_with (at + 1)
  one_interior_part false interior at = one_is _

  pub one_interior : (depths : ℕ) → IsOneStatement (IsBlock (interior_kind tokens set) tokens depths)
  one_interior = one_block (interior_kind tokens set) tokens (λ depths led interior at. one_is _) (λ depths interior at. one_interior_part _ interior at)

  one_material_part : (depths : ℕ) (part : MaterialPart) → IsOneStatement (IsMaterialPart tokens set depths part)
  one_material_part depths MaterialPart.Texture material at = one_then (one_texture depths _ (at + 1)) (λ inner. one_is _)
  one_material_part depths MaterialPart.Interior material at = one_then (one_interior depths _ (at + 1)) (λ interior. one_is _)
  one_material_part depths MaterialPart.Other material at = one_is _

  pub one_material : (depths : ℕ) → IsOneStatement (IsBlock (material_kind tokens set) tokens depths)
  one_material = one_block (material_kind tokens set) tokens (λ depths led material at. one_is _) (λ depths material at. one_material_part depths _ material at)

  -- ---- the looks of an object

  pub one_look : (depths : ℕ) (part : LookPart) → IsOneStatement (IsLook tokens set depths part)
  one_look depths LookPart.Pigment looks at = one_then (one_texture_part depths TexturePart.Pigment looks.texture at) (λ texture. one_is _)
  one_look depths LookPart.Finish looks at = one_then (one_texture_part depths TexturePart.Finish looks.texture at) (λ texture. one_is _)
  one_look depths LookPart.Texture looks at = one_material_part depths MaterialPart.Texture looks at
  one_look depths LookPart.Interior looks at = one_material_part depths MaterialPart.Interior looks at
  one_look depths LookPart.Material looks at = one_then (one_material depths _ (at + 1)) (λ inner. one_is _)
