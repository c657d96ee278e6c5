-- An object comes to one outcome: each way to read it does, where its parts do.
use Rattle.std.specs.Prelude.{◌≡◌, ℕ, zero, suc, ◌+◌, ◌-◌, ◌≤◌, ◌<◌, ℤ, Bool, true, false, ◌&&◌, nat_eq, nat_lt, List, length, Option, Some, None, Result, Ok, Err, refl}
use Rattle.std.proofs.Common.{subst, sym, ◌∙◌, arith}
use Rattle.std.proofs.lemmas.Bool.Decides.{nat_tests}
use Rattle.std.proofs.lemmas.Option.{slice_get_past}
use Rattle.fix_math.specs.declared.fix.V3.{V3}
use Rattle.scene_lexer.specs.declared.sign.TheConstants.{OPEN_BRACE, CLOSE_BRACE}
use Rattle.scene_lexer.specs.declared.token.Token.{Token}
use Rattle.scene_expr.specs.declared.value.Settings.{Settings}
use Rattle.scene_expr.specs.Heads.{sign_at}
use Rattle.scene_expr.specs.Then.{IsThen, IsOne, one_is, then_fault, then_found, one_then}
use Rattle.scene_model.specs.declared.shape.Op.{Op}
use Rattle.item_blocks.specs.declared.fault.ParseFault.{ParseFault}
use Rattle.item_blocks.specs.declared.fault.Wanted.{Wanted}
use Rattle.item_blocks.specs.declared.words.SolidWord.{SolidWord}
use Rattle.item_blocks.specs.Blocks.{Statement, closed, IsStatements}
use Rattle.item_blocks.specs.OneBlock.{IsOneStatement, one_parameter, one_moved, one_texture, one_look}
use Rattle.item_blocks.specs.Parameters.{point_of}
use Rattle.item_blocks.specs.Tokens.{opened, unfit_at, Behind}
use Rattle.solid_items.specs.Sheets.{normal_of, IsCorner, IsTriangle}
use Rattle.solid_items.specs.Solids.{origin, other_of, radius_of, distance_of, IsPoint, IsRadius, IsDistance, IsOther, IsSolid}
use Rattle.object_items.specs.declared.modifier.ModifierPart.{ModifierPart}
use Rattle.object_items.specs.declared.object.ObjectWord.{ObjectWord}
use Rattle.object_items.specs.declared.tables.Marks.{Marks}
use Rattle.object_items.specs.Held.{Held, nothing_held}
use Rattle.object_items.specs.Modifiers.{holds_sheets, IsInversion, IsModifier}
use Rattle.object_items.specs.Objects.{begins_object, is_union, no_parts, Inside, IsNext, IsInside, IsObjectBy, IsPartBy, IsGroupObject, IsHolder, IsObjectItem}
use Rattle.object_items.specs.Sheets.{triangle_word, begins_triangle, IsCorners, IsTriangleObject, IsOwnTexture, IsMeshPart, IsMeshObject}
use Rattle.object_items.specs.Skipped.{IsSkipped, IsPassedOver}
use Rattle.object_items.specs.Statements.{IsWhile, IsRow, IsSaid, IsEnded, IsCounted, IsLeafObject}
use Rattle.object_items.specs.Trees.{Tree}

-- ---- statements up to a brace, and rows of parts

module _ {S : Type 0} (tokens : List Token) (statement : Statement S) (lacks : S → Option Wanted) (one : IsOneStatement statement) where
  -- what comes of a state, by whether the brace stands here
  abbrev IsByBrace : Bool → Statement S
  IsByBrace true s at r = r ≡ closed tokens (lacks s) s at
  IsByBrace false s at r = IsThen (Behind S) (Behind S) ParseFault (statement s at) (λ more. IsStatements tokens statement lacks more.value more.next) r

  by_brace : (s : S) (at : ℕ) (shut : Bool) (r : Result (Behind S) ParseFault) → nat_eq (sign_at tokens at) CLOSE_BRACE ≡ shut → IsStatements tokens statement lacks s at r → IsByBrace shut s at r
  by_brace s at shut r e (IsStatements.ends _ _ is) = subst (λ b. IsByBrace b s at r) (sym is ∙ e) refl
  by_brace s at shut r e (IsStatements.fault _ _ f is p) = subst (λ b. IsByBrace b s at r) (sym is ∙ e) (IsThen.fault f p)
  by_brace s at shut r e (IsStatements.further _ _ more _ is p rest) = subst (λ b. IsByBrace b s at r) (sym is ∙ e) (IsThen.found more r p rest)

  one_statements : IsOneStatement (IsStatements tokens statement lacks)
  one_statements s at r q (IsStatements.ends _ _ is) x = sym (by_brace s at true q is x)
  one_statements s at r q (IsStatements.fault _ _ f is p) x = then_fault (one s at) f p (by_brace s at false q is x)
  one_statements s at r q (IsStatements.further _ _ more _ is p rest) x =
      one_statements more.value more.next r q rest (then_found (one s at) more p (by_brace s at false q is x))

module _ {S : Type 0} (begins : ℕ → Bool) (statement : Statement S) (one : IsOneStatement statement) where
  -- what comes of a state, by whether a part begins here
  abbrev IsByWord : Bool → Statement S
  IsByWord true s at r = IsThen (Behind S) (Behind S) ParseFault (statement s at) (λ more. IsWhile begins statement more.value more.next) r
  IsByWord false s at r = r ≡ Ok (record { value = s; next = at })

  by_word : (s : S) (at : ℕ) (more : Bool) (r : Result (Behind S) ParseFault) → begins at ≡ more → IsWhile begins statement s at r → IsByWord more s at r
  by_word s at more r e (IsWhile.ends _ _ is) = subst (λ b. IsByWord b s at r) (sym is ∙ e) refl
  by_word s at more r e (IsWhile.fault _ _ f is p) = subst (λ b. IsByWord b s at r) (sym is ∙ e) (IsThen.fault f p)
  by_word s at more r e (IsWhile.further _ _ next _ is p rest) = subst (λ b. IsByWord b s at r) (sym is ∙ e) (IsThen.found next r p rest)

  one_while : IsOneStatement (IsWhile begins statement)
  one_while s at r q (IsWhile.ends _ _ is) x = sym (by_word s at false q is x)
  one_while s at r q (IsWhile.fault _ _ f is p) x = then_fault (one s at) f p (by_word s at true q is x)
  one_while s at r q (IsWhile.further _ _ more _ is p rest) x =
      one_while more.value more.next r q rest (then_found (one s at) more p (by_word s at true q is x))

  one_row : IsOneStatement (IsRow begins statement)
  one_row s at = one_then (one s at) (λ first. one_while first.value first.next)

-- ---- what is passed over

module _ (tokens : List Token) (depths : ℕ) where
  -- what comes of the tokens from a place on, by what stands there: an opening brace, a closing one, another token, or none
  abbrev IsByTests : Bool → Bool → Bool → ℕ → ℕ → Result ℕ ParseFault → Type 0
  IsByTests true shuts some left at r = IsThen ℕ ℕ ParseFault (λ m. m ≡ opened tokens (depths - suc left) at) (λ next. IsSkipped tokens depths (suc (suc left)) next) r
  IsByTests false true some left at r = IsSkipped tokens depths left (at + 1) r
  IsByTests false false true left at r = IsSkipped tokens depths (suc left) (at + 1) r
  IsByTests false false false left at r = r ≡ Err (unfit_at Wanted.CloseBrace tokens at)

  abbrev IsByToken : ℕ → ℕ → Result ℕ ParseFault → Type 0
  IsByToken left at r = IsByTests (nat_eq (sign_at tokens at) OPEN_BRACE) (nat_eq (sign_at tokens at) CLOSE_BRACE) (nat_lt at (length tokens)) left at r

  -- behind the end stands no sign
  no_sign : (at : ℕ) → length tokens ≤ at → sign_at tokens at ≡ 0
  no_sign at end = rw (slice_get_past tokens at end) refl

  not_below : (a b : ℕ) → b ≤ a → nat_lt a b ≡ false
  not_below a b h = grind (arith, nat_tests)

  below : (a b : ℕ) → a < b → nat_lt a b ≡ true
  below a b h = grind (arith, nat_tests)

  two_signs : (n : ℕ) → nat_eq n CLOSE_BRACE ≡ true → nat_eq n OPEN_BRACE ≡ false
  two_signs n h = grind (arith, nat_tests)

  by_token : (left at : ℕ) (r : Result ℕ ParseFault) → IsSkipped tokens depths (suc left) at r → IsByToken left at r
  by_token left at r (IsSkipped.missing _ _ end) =
      let none : sign_at tokens at ≡ 0 = no_sign at end in
      let past : nat_lt at (length tokens) ≡ false = not_below at (length tokens) end in
      subst (λ n. IsByTests (nat_eq n OPEN_BRACE) (nat_eq n CLOSE_BRACE) (nat_lt at (length tokens)) left at r) (sym none)
      (subst (λ b. IsByTests false false b left at r) (sym past) refl)
  by_token left at r (IsSkipped.too_deep _ _ f opens is) =
      subst (λ b. IsByTests b (nat_eq (sign_at tokens at) CLOSE_BRACE) (nat_lt at (length tokens)) left at r) (sym opens) (IsThen.fault f is)
  by_token left at r (IsSkipped.opens _ _ next _ opens is rest) =
      subst (λ b. IsByTests b (nat_eq (sign_at tokens at) CLOSE_BRACE) (nat_lt at (length tokens)) left at r) (sym opens) (IsThen.found next r is rest)
  by_token left at r (IsSkipped.closes _ _ _ shuts rest) =
      let other : nat_eq (sign_at tokens at) OPEN_BRACE ≡ false = two_signs (sign_at tokens at) shuts in
      subst (λ b. IsByTests b (nat_eq (sign_at tokens at) CLOSE_BRACE) (nat_lt at (length tokens)) left at r) (sym other)
      (subst (λ b. IsByTests false b (nat_lt at (length tokens)) left at r) (sym shuts) rest)
  by_token left at r (IsSkipped.further _ _ _ within opens shuts rest) =
      subst (λ b. IsByTests b (nat_eq (sign_at tokens at) CLOSE_BRACE) (nat_lt at (length tokens)) left at r) (sym opens)
      (subst (λ b. IsByTests false b (nat_lt at (length tokens)) left at r) (sym shuts)
      (subst (λ b. IsByTests false false b left at r) (sym (below at (length tokens) within)) rest))

  opens_here : (left at : ℕ) (r : Result ℕ ParseFault) → nat_eq (sign_at tokens at) OPEN_BRACE ≡ true → IsByToken left at r → IsThen ℕ ℕ ParseFault (λ m. m ≡ opened tokens (depths - suc left) at) (λ next. IsSkipped tokens depths (suc (suc left)) next) r
  opens_here left at r opens x = subst (λ b. IsByTests b (nat_eq (sign_at tokens at) CLOSE_BRACE) (nat_lt at (length tokens)) left at r) opens x

  shuts_here : (left at : ℕ) (r : Result ℕ ParseFault) → nat_eq (sign_at tokens at) CLOSE_BRACE ≡ true → IsByToken left at r → IsSkipped tokens depths left (at + 1) r
  shuts_here left at r shuts x =
      subst (λ b. IsByTests false b (nat_lt at (length tokens)) left at r) shuts
      (subst (λ b. IsByTests b (nat_eq (sign_at tokens at) CLOSE_BRACE) (nat_lt at (length tokens)) left at r) (two_signs (sign_at tokens at) shuts) x)

  further_here : (left at : ℕ) (some : Bool) (r : Result ℕ ParseFault) → nat_eq (sign_at tokens at) OPEN_BRACE ≡ false → nat_eq (sign_at tokens at) CLOSE_BRACE ≡ false → nat_lt at (length tokens) ≡ some → IsByToken left at r → IsByTests false false some left at r
  further_here left at some r opens shuts is x =
      subst (λ b. IsByTests false false b left at r) is
      (subst (λ b. IsByTests false b (nat_lt at (length tokens)) left at r) shuts
      (subst (λ b. IsByTests b (nat_eq (sign_at tokens at) CLOSE_BRACE) (nat_lt at (length tokens)) left at r) opens x))

  none_here : (left at : ℕ) (r : Result ℕ ParseFault) → length tokens ≤ at → IsByToken left at r → r ≡ Err (unfit_at Wanted.CloseBrace tokens at)
  none_here left at r end x =
      let none : sign_at tokens at ≡ 0 = no_sign at end in
      subst (λ b. IsByTests false false b left at r) (not_below at (length tokens) end)
      (subst (λ n. IsByTests (nat_eq n OPEN_BRACE) (nat_eq n CLOSE_BRACE) (nat_lt at (length tokens)) left at r) none x)

  all_closed : (at : ℕ) (r : Result ℕ ParseFault) → IsSkipped tokens depths zero at r → r ≡ Ok at
  all_closed at r (IsSkipped.closed _) = refl

  one_skipped : (left at : ℕ) → IsOne (IsSkipped tokens depths left at)
  one_skipped left at r q (IsSkipped.closed _) x = sym (all_closed at q x)
  one_skipped left at r q (IsSkipped.missing more _ end) x = sym (none_here more at q end (by_token more at q x))
  one_skipped left at r q (IsSkipped.too_deep more _ f opens is) x = then_fault (one_is _) f is (opens_here more at q opens (by_token more at q x))
  one_skipped left at r q (IsSkipped.opens more _ next _ opens is rest) x = one_skipped (suc (suc more)) next r q rest (then_found (one_is _) next is (opens_here more at q opens (by_token more at q x)))
  one_skipped left at r q (IsSkipped.closes more _ _ shuts rest) x = one_skipped more (at + 1) r q rest (shuts_here more at q shuts (by_token more at q x))
  one_skipped left at r q (IsSkipped.further more _ _ within opens shuts rest) x =
      one_skipped (suc more) (at + 1) r q rest (further_here more at true q opens shuts (below at (length tokens) within) (by_token more at q x))

  one_passed : (at : ℕ) → IsOne (IsPassedOver tokens depths at)
  one_passed at = one_then (one_is _) (λ next. one_skipped 1 next)

module _ (tokens : List Token) (set : Settings) where
  -- ---- solids and triangles

  one_point : (at : ℕ) → IsOne (IsPoint tokens set at)
  one_point at = one_parameter tokens set V3 point_of at

  one_radius : (at : ℕ) → IsOne (IsRadius tokens set at)
  one_radius at = one_parameter tokens set ℤ radius_of at

  one_distance : (at : ℕ) → IsOne (IsDistance tokens set at)
  one_distance at = one_parameter tokens set ℤ distance_of at

  one_other : (a : V3) (at : ℕ) → IsOne (IsOther a tokens set at)
  one_other a at = one_parameter tokens set V3 (other_of a) at

  one_solid : (word : SolidWord) (at : ℕ) → IsOne (IsSolid word tokens set at)
  one_solid SolidWord.Sphere at = one_then (one_point at) (λ centre. one_then (one_radius _) (λ radius. one_is _))
  one_solid SolidWord.Box at = one_then (one_point at) (λ a. one_then (one_point _) (λ b. one_is _))
  one_solid SolidWord.Plane at = one_then (one_other origin at) (λ normal. one_then (one_distance _) (λ d. one_is _))
  one_solid SolidWord.Cylinder at = one_then (one_point at) (λ a. one_then (one_other a.value _) (λ b. one_then (one_radius _) (λ radius. one_is _)))
  one_solid SolidWord.Cone at = one_then (one_point at) (λ a. one_then (one_radius _) (λ ra. one_then (one_other a.value _) (λ b. one_then (one_radius _) (λ rb. one_is _))))
  one_solid SolidWord.Quadric at = one_then (one_point at) (λ a. one_then (one_point _) (λ b. one_then (one_point _) (λ c. one_then (one_distance _) (λ d. one_is _))))

  one_corner : (smooth : Bool) (at : ℕ) → IsOne (IsCorner smooth tokens set at)
  one_corner false at = one_then (one_point at) (λ point. one_is _)
  one_corner true at = one_then (one_point at) (λ point. one_then (one_parameter tokens set V3 normal_of _) (λ normal. one_is _))

  one_triangle : (smooth : Bool) (at : ℕ) → IsOne (IsTriangle smooth tokens set at)
  one_triangle smooth at = one_then (one_corner smooth at) (λ a. one_then (one_corner smooth _) (λ b. one_then (one_corner smooth _) (λ c. one_is _)))

  -- ---- modifiers

  one_inversion : (sheets : Bool) → IsOneStatement (IsInversion tokens sheets)
  one_inversion true said at = one_is _
  one_inversion false said at = one_is _

  one_modifier : (depths : ℕ) (marks : Marks) (part : Option ModifierPart) → IsOneStatement (IsModifier tokens set depths marks part)
  one_modifier depths marks (Some (ModifierPart.Look part)) said at = one_then (one_look tokens set depths part said.looks at) (λ looks. one_is _)
  one_modifier depths marks (Some ModifierPart.Move) said at = one_then (one_moved tokens set depths _ at) (λ moved. one_is _)
  one_modifier depths marks (Some ModifierPart.Inverse) said at = one_inversion (holds_sheets marks said) said at
  one_modifier depths marks (Some ModifierPart.NoShadow) said at = one_is _
  one_modifier depths marks (Some ModifierPart.Hollow) said at = one_is _
  one_modifier depths marks (Some ModifierPart.Hierarchy) said at = one_is _
  one_modifier depths marks (Some ModifierPart.Bound) said at = one_then (one_passed tokens depths (at + 1)) (λ next. one_is _)
  one_modifier depths marks None said at = one_is _

  one_said : (depths : ℕ) (mesh : Bool) (marks : Marks) → IsOneStatement (IsSaid tokens set depths mesh marks)
  one_said depths mesh marks said at = one_statements tokens _ (λ said. None) (λ said at. one_modifier depths marks _ said at) said at

  one_ended : (depths : ℕ) (mesh : Bool) (marks : Marks) (tree : Option Tree) (no_shadow : Bool) (held : Held) (at : ℕ) → IsOne (IsEnded tokens set depths mesh marks tree no_shadow held at)
  one_ended depths mesh marks tree no_shadow held at = one_then (one_said depths mesh marks _ at) (λ said. one_is _)

  -- ---- statements

  one_counted : (depths : ℕ) (word : SolidWord) (number at : ℕ) → IsOne (IsCounted tokens set depths word number at)
  one_counted depths word number at = one_then (one_is _) (λ brace. one_then (one_is _) (λ start. one_solid word start))

  one_leaf : (depths : ℕ) (word : SolidWord) (held : Held) (at : ℕ) → IsOne (IsLeafObject tokens set depths word held at)
  one_leaf depths word held at = one_then (one_counted depths word _ at) (λ solid. one_ended _ _ _ _ false _ solid.next)

  one_corners : (depths : ℕ) (smooth : Bool) (number at : ℕ) → IsOne (IsCorners tokens set depths smooth number at)
  one_corners depths smooth number at = one_then (one_is _) (λ brace. one_then (one_is _) (λ start. one_triangle smooth start))

  one_triangle_object : (depths : ℕ) (smooth : Bool) (held : Held) (at : ℕ) → IsOne (IsTriangleObject tokens set depths smooth held at)
  one_triangle_object depths smooth held at = one_then (one_corners depths smooth _ at) (λ sheet. one_ended _ _ _ _ false _ sheet.next)

  one_own_texture : (depths : ℕ) (leads : Bool) (at : ℕ) → IsOne (IsOwnTexture tokens set depths leads at)
  one_own_texture depths true at = one_texture tokens set depths _ (at + 1)
  one_own_texture depths false at = one_is _

  one_mesh_part : (depths thing : ℕ) (smooth : Option Bool) → IsOneStatement (IsMeshPart tokens set depths thing smooth)
  one_mesh_part depths thing (Some smooth) held at =
      one_then (one_corners depths smooth _ at) (λ sheet. one_then (one_own_texture _ _ sheet.next) (λ texture. one_then (one_is _) (λ next. one_is _)))
  one_mesh_part depths thing None held at = one_is _

  one_mesh : (depths : ℕ) (held : Held) (at : ℕ) → IsOne (IsMeshObject tokens set depths held at)
  one_mesh depths held at =
      one_then (one_is _) (λ start. one_then (one_row (begins_triangle tokens) _ (λ held at. one_mesh_part _ _ (triangle_word _) held at) _ start) (λ parts. one_ended _ _ _ _ false _ parts.next))

  module _ (depths : ℕ) (inside : Inside) (one : (sheets : Bool) (wanted : Wanted) (held : Held) (at : ℕ) → IsOne (inside sheets wanted held at)) where
    one_next : (sheets : Bool) (op : Op) → IsOneStatement (IsNext inside sheets op)
    one_next sheets op parts at = one_then (one sheets Wanted.Part parts.held at) (λ drawn. one_is _)

    one_group : (sheets : Bool) (op : Op) (held : Held) (at : ℕ) → IsOne (IsGroupObject tokens set depths inside sheets op held at)
    one_group sheets op held at =
        one_then (one_is _) (λ start. one_then (one_row (begins_object (sheets && is_union op) tokens) (IsNext inside (sheets && is_union op) op) (one_next (sheets && is_union op) op) (no_parts held) start) (λ parts. one_ended _ _ _ _ false _ parts.next))

    one_holder : (sheets : Bool) (held : Held) (at : ℕ) → IsOne (IsHolder tokens set depths inside sheets held at)
    one_holder sheets held at = one_then (one_is _) (λ start. one_then (one sheets Wanted.Item held start) (λ part. one_ended _ _ _ _ part.value.no_shadow _ part.next))

    one_object_by : (sheets : Bool) (word : ObjectWord) (held : Held) (at : ℕ) → IsOne (IsObjectBy tokens set depths inside sheets word held at)
    one_object_by sheets (ObjectWord.Solid word) held at = one_leaf depths word held at
    one_object_by sheets (ObjectWord.Triangle smooth) held at = one_triangle_object depths smooth held at
    one_object_by sheets ObjectWord.Mesh held at = one_mesh depths held at
    one_object_by sheets (ObjectWord.Group op) held at = one_group sheets op held at
    one_object_by sheets ObjectWord.Holder held at = one_holder sheets held at

    one_part_by : (sheets : Bool) (wanted : Wanted) (word : Option ObjectWord) (held : Held) (at : ℕ) → IsOne (IsPartBy tokens set depths inside sheets wanted word held at)
    one_part_by sheets wanted (Some word) held at = one_object_by sheets word held at
    one_part_by sheets wanted None held at = one_is _

  one_inside : (depths : ℕ) (sheets : Bool) (wanted : Wanted) (held : Held) (at : ℕ) → IsOne (IsInside tokens set depths sheets wanted held at)
  unfolding IsInside
  one_inside zero sheets wanted held at = λ r q x y. absurd x
  one_inside (suc depths) sheets wanted held at = one_part_by depths (IsInside tokens set depths) (one_inside depths) sheets wanted _ held at

  -- a top-level object
  pub one_object : (depths leaves sheets : ℕ) (word : ObjectWord) (at : ℕ) → IsOne (IsObjectItem tokens set depths leaves sheets word at)
  one_object depths leaves sheets word at = one_object_by depths (IsInside tokens set depths) (one_inside depths) true word (nothing_held leaves sheets) at
