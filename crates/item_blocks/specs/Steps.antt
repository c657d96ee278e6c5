-- Steps of transforms, and what they move. (Reference manual, transformations)
use Rattle.std.specs.Prelude.{◌≡◌, ℕ, zero, suc, ◌+◌, ℤ, Bool, true, false, List, [], ◌∷◌, ◌++◌, if◌then◌else◌, Option, Some, None, Result, Ok, Err}
use Rattle.fix_math.specs.declared.fix.V3.{V3}
use Rattle.scene_lexer.specs.declared.sign.TheConstants.{LESS, GREATER, COMMA}
use Rattle.scene_lexer.specs.declared.token.Place.{Place}
use Rattle.scene_lexer.specs.declared.token.Token.{Token}
use Rattle.scene_expr.specs.declared.value.Settings.{Settings}
use Rattle.scene_expr.specs.Heads.{place_at}
use Rattle.scene_expr.specs.Then.{IsThen, Is}
use Rattle.xform.specs.declared.transform.Step.{Step}
use Rattle.xform.specs.declared.transform.Xform.{Xform}
use Rattle.xform.specs.declared.transform.XformFault.{XformFault}
use Rattle.xform.specs.Transforms.{then_of}
use Rattle.item_blocks.specs.declared.fault.ParseFault.{ParseFault}
use Rattle.item_blocks.specs.declared.fault.Wanted.{Wanted}
use Rattle.item_blocks.specs.declared.steps.StepPart.{StepPart}
use Rattle.item_blocks.specs.declared.words.BlockWord.{BlockWord}
use Rattle.item_blocks.specs.declared.words.StepWord.{StepWord}
use Rattle.item_blocks.specs.declared.words.VectorStep.{VectorStep}
use Rattle.item_blocks.specs.declared.words.Word.{Word}
use Rattle.item_blocks.specs.Tokens.{word_at, unfit_at, passed, opened, Behind, behind, Reading}
use Rattle.item_blocks.specs.Blocks.{IsStatements}
use Rattle.item_blocks.specs.Parameters.{any_vector_of, any_float_of, IsParameter}

-- ---- what a step moves: each of a list of things, in their order, and the first that can't be moved is its fault

abbrev pub with_moved : Xform → Result (List Xform) XformFault → Result (List Xform) XformFault
with_moved x (Ok xs) = Ok (x ∷ xs)
with_moved x (Err fault) = Err fault

abbrev pub and_moved : Result Xform XformFault → Result (List Xform) XformFault → Result (List Xform) XformFault
and_moved (Ok x) xs = with_moved x xs
and_moved (Err fault) xs = Err fault

abbrev pub all_moved : Step → List Xform → Result (List Xform) XformFault
all_moved step [] = Ok []
all_moved step (x ∷ xs) = and_moved (then_of x step) (all_moved step xs)

-- the fault of a step is at its parameter
abbrev pub placed : {A : Type 0} → Place → Result A XformFault → Result A ParseFault
placed place (Ok a) = Ok a
placed place (Err fault) = Err (ParseFault.Xform place fault)

abbrev pub moved_by : Step → Place → List Xform → Result (List Xform) ParseFault
moved_by step place xforms = placed place (all_moved step xforms)

-- ---- the parameter of a step

-- the comma that stands behind each number of a matrix but the last
abbrev pub divided : ℕ → List Token → ℕ → Result ℕ ParseFault
divided zero tokens at = Ok at
divided (suc more) tokens at = passed COMMA Wanted.Parameter tokens at

-- so many numbers behind those that stand before, with commas between them
abbrev pub IsNumbers : List Token → Settings → ℕ → List ℤ → Reading (List ℤ)
IsNumbers tokens set zero before at r = r ≡ Ok (record { value = before; next = at })
IsNumbers tokens set (suc more) before at r =
    IsThen (Behind ℤ) (Behind (List ℤ)) ParseFault (IsParameter ℤ any_float_of tokens set at) (λ number.
    IsThen ℕ (Behind (List ℤ)) ParseFault (Is (divided more tokens number.next)) (λ next.
    IsNumbers tokens set more (before ++ number.value ∷ []) next)) r

-- twelve numbers between `<` and `>`
abbrev pub IsMatrix : List Token → Settings → Reading Step
IsMatrix tokens set at r =
    IsThen ℕ (Behind Step) ParseFault (Is (passed LESS Wanted.Parameter tokens at)) (λ start.
    IsThen (Behind (List ℤ)) (Behind Step) ParseFault (IsNumbers tokens set 12 [] start) (λ numbers.
    IsThen ℕ (Behind Step) ParseFault (Is (passed GREATER Wanted.Parameter tokens numbers.next)) (λ next.
    Is (Ok (record { value = Step.Matrix numbers.value; next = next }))))) r

abbrev pub vector_step : VectorStep → V3 → Step
vector_step VectorStep.Translate v = Step.Translate v
vector_step VectorStep.Scale v = Step.Scale v
vector_step VectorStep.Rotate v = Step.Rotate v

abbrev pub IsVectorStep : List Token → Settings → VectorStep → Reading Step
IsVectorStep tokens set kind at r =
    IsThen (Behind V3) (Behind Step) ParseFault (IsParameter V3 any_vector_of tokens set at) (λ v. Is (Ok (record { value = vector_step kind v.value; next = v.next }))) r

-- the step of a word, by the parameter behind it
abbrev pub IsStep : List Token → Settings → StepWord → Reading Step
IsStep tokens set (StepWord.Vector kind) at r = IsVectorStep tokens set kind at r
IsStep tokens set StepWord.Matrix at r = IsMatrix tokens set at r

-- ---- steps one after another, each moving the things when it is read

-- a step whose parameter stands at a place
abbrev pub IsTaken : List Token → Settings → StepWord → List Xform → Reading (List Xform)
IsTaken tokens set word xforms at r =
    IsThen (Behind Step) (Behind (List Xform)) ParseFault (IsStep tokens set word at) (λ step.
    Is (behind (moved_by step.value (place_at tokens at) xforms) step.next)) r

-- what a step of a transform says: a step, or a transform inside
abbrev pub step_part : Option Word → StepPart
step_part (Some (Word.Step word)) = StepPart.One word
step_part (Some (Word.Block BlockWord.Transform)) = StepPart.Many
step_part other = StepPart.Neither

-- `transform` may stand twice, so that the name of a transform may follow the word
abbrev pub is_transform : Option Word → Bool
is_transform (Some (Word.Block BlockWord.Transform)) = true
is_transform other = false

abbrev pub behind_transform : List Token → ℕ → ℕ
behind_transform tokens at = if is_transform (word_at tokens at) then at + 1 else at

-- what moves the things from a word on
abbrev pub Moving : Type 1
Moving = List Xform → Reading (List Xform)

-- steps up to the closing brace
abbrev pub IsSteps : List Token → Moving → Moving
IsSteps tokens step xforms at r = IsStatements tokens step (λ xforms. None) xforms at r

-- the braces of a transform, whose steps are read by what is read inside
abbrev pub IsBraces : List Token → ℕ → Moving → Moving
IsBraces tokens depths inside xforms at r =
    IsThen ℕ (Behind (List Xform)) ParseFault (Is (opened tokens depths at)) (IsSteps tokens inside xforms) r

-- a step, or a transform, from its word on
abbrev pub IsMoved : List Token → Settings → ℕ → Moving → StepPart → Moving
IsMoved tokens set depths inside (StepPart.One word) xforms at r = IsTaken tokens set word xforms (at + 1) r
IsMoved tokens set depths inside StepPart.Many xforms at r = IsBraces tokens depths inside xforms (behind_transform tokens (at + 1)) r
IsMoved tokens set depths inside StepPart.Neither xforms at r = r ≡ Err (unfit_at Wanted.Step tokens at)

-- what is read inside braces, where so many more may be open before them: nothing where none may
unfoldable pub IsInside : List Token → Settings → ℕ → Moving
IsInside tokens set zero xforms at r = ⊥
IsInside tokens set (suc depths) xforms at r = IsMoved tokens set depths (IsInside tokens set depths) (step_part (word_at tokens at)) xforms at r

-- a step or a transform, where so many further braces may be open
abbrev pub IsMovedIn : List Token → Settings → ℕ → Moving
IsMovedIn tokens set depths xforms at r = IsMoved tokens set depths (IsInside tokens set depths) (step_part (word_at tokens at)) xforms at r
