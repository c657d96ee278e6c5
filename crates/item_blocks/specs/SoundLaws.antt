-- What is read is sound: each statement keeps what is sound, and so does each block.
use Rattle.std.specs.Prelude.{◌≡◌, ℕ, zero, suc, ◌+◌, ◌-◌, ◌^◌, ◌≤◌, ◌≤ℤ◌, ℤ, pos, Bool, true, false, ◌&&◌, nat_le, int_le, if◌then◌else◌, List, [], ◌∷◌, slice_index_or, Option, Some, None, Result, Ok, Err, IfOk, unsigned_abs, refl}
use Rattle.std.specs.List.{All}
use Rattle.std.proofs.Common.{subst, sym, arith}
use Rattle.std.proofs.lemmas.Int.{ints}
use Rattle.std.proofs.lemmas.Bool.Decides.{nat_tests}
use Rattle.std.proofs.lemmas.List.Elements.{All-nil, All-cons}
use Rattle.fix_math.specs.Matrices.{component, row_at, is_row_within, is_matrix_within, is_vector_within, IsRowWithin, IsMatrixWithin, IsVectorWithin}
use Rattle.fix_math.specs.Rotations.{about_x, about_y, about_z}
use Rattle.fix_math.specs.declared.fix.V3.{V3}
use Rattle.scene_lexer.specs.declared.token.Place.{Place}
use Rattle.scene_lexer.specs.declared.token.Token.{Token}
use Rattle.scene_expr.specs.declared.value.Settings.{Settings}
use Rattle.scene_expr.specs.declared.value.Value.{Value}
use Rattle.scene_expr.specs.Operators.{number_at}
use Rattle.scene_expr.specs.Then.{IsThen}
use Rattle.scene_model.specs.Amounts.{IsAmount, AreAmounts, IsRgbft}
use Rattle.xform.specs.declared.transform.Step.{Step}
use Rattle.xform.specs.declared.transform.Xform.{Xform}
use Rattle.xform.specs.declared.transform.XformFault.{XformFault}
use Rattle.xform.specs.Transforms.{start_of, checked as in_the_world, after, then_of, has_zero, scaled, translated, turned, by_linear, inverted, multiplied, linear_part, translation_part, IsPlaced}
use Rattle.item_blocks.specs.declared.fault.ParseFault.{ParseFault}
use Rattle.item_blocks.specs.declared.fault.Wanted.{Wanted}
use Rattle.item_blocks.specs.declared.steps.StepPart.{StepPart}
use Rattle.item_blocks.specs.Tokens.{Behind, behind}
use Rattle.item_blocks.specs.Parameters.{is_between, are_between, in_range, checked, float_in, float_of, colour_of, is_colour, rgb_of, rgb_from, colour_in, IsParameter}
use Rattle.item_blocks.specs.Blocks.{Statement, Kind, closed, IsStatements, IsLed, IsBraced, IsOwn, IsBlock}
use Rattle.item_blocks.specs.Steps.{Moving, all_moved, and_moved, placed, moved_by, IsMoved, IsInside, IsMovedIn}
use Rattle.item_blocks.specs.Finishes.{on_ok}

-- ---- one part after another

-- what holds of each value that follows from a first part holds of the whole's
pub kept_then : {A B E : Type 0} {first : Result A E → Type 0} {rest : A → Result B E → Type 0} {r : Result B E} (Q : B → Type 0) → IsThen A B E first rest r → ((a : A) → first (Ok a) → rest a r → IfOk r Q) → IfOk r Q
kept_then Q (IsThen.fault f p) further = tt
kept_then Q (IsThen.found a r p rest) further = further a p rest

pub kept_is : {A E : Type 0} (Q : A → Type 0) (m r : Result A E) → r ≡ m → IfOk m Q → IfOk r Q
kept_is Q m r is holds = subst (λ (x : _). IfOk x Q) (sym is) holds

pub kept_behind : {A : Type 0} (Q : A → Type 0) (m : Result A ParseFault) (next : ℕ) → IfOk m Q → IfOk (behind m next) (λ b. Q b.value)
kept_behind Q (Ok a) next holds = holds
kept_behind Q (Err f) next holds = tt

pub kept_ok : {A B E : Type 0} (P : A → Type 0) (Q : B → Type 0) (m : Result A E) (f : A → B) → IfOk m P → ((a : A) → P a → Q (f a)) → IfOk (on_ok m f) Q
kept_ok P Q (Ok a) f holds further = further a holds
kept_ok P Q (Err e) f holds further = tt

-- a parameter is what is made of its value
pub kept_parameter : {A : Type 0} (Q : A → Type 0) (meaning : Value → Place → Result A ParseFault) (tokens : List Token) (set : Settings) (at : ℕ) (r : Result (Behind A) ParseFault) → ((value : Value) (place : Place) → IfOk (meaning value place) Q) → IsParameter A meaning tokens set at r → IfOk r (λ b. Q b.value)
kept_parameter Q meaning tokens set at r holds read =
    kept_then (λ b. Q b.value) read (λ value found is. kept_is (λ b. Q b.value) (behind (meaning value.value _) value.next) r is (kept_behind Q (meaning value.value _) value.next (holds value.value _)))

-- ---- statements and blocks

-- a statement keeps what holds of a state
abbrev pub Keeps : {S : Type 0} → (S → Type 0) → Statement S → Type 0
Keeps {S} P statement = (s : S) (at : ℕ) (r : Result (Behind S) ParseFault) → P s → statement s at r → IfOk r (λ b. P b.value)

module _ {S : Type 0} (P : S → Type 0) where
  pub kept_same : (s : S) (next : ℕ) (r : Result (Behind S) ParseFault) → P s → r ≡ Ok (record { value = s; next = next }) → IfOk r (λ b. P b.value)
  kept_same s next r sound is = kept_is (λ b. P b.value) (Ok (record { value = s; next = next })) r is sound

  pub kept_refused : (f : ParseFault) (r : Result (Behind S) ParseFault) → r ≡ Err f → IfOk r (λ b. P b.value)
  kept_refused f r is = kept_is (λ b. P b.value) (Err f) r is tt

  kept_closed : (tokens : List Token) (lacks : Option Wanted) (s : S) (at : ℕ) → P s → IfOk (closed tokens lacks s at) (λ b. P b.value)
  kept_closed tokens None s at sound = sound
  kept_closed tokens (Some kind) s at sound = tt

  pub kept_statements : (tokens : List Token) (statement : Statement S) (lacks : S → Option Wanted) → Keeps P statement → Keeps P (IsStatements tokens statement lacks)
  kept_statements tokens statement lacks keeps s at r sound (IsStatements.ends _ _ is) = kept_closed tokens (lacks s) s at sound
  kept_statements tokens statement lacks keeps s at r sound (IsStatements.fault _ _ f is p) = tt
  kept_statements tokens statement lacks keeps s at r sound (IsStatements.further _ _ more _ is p rest) =
      kept_statements tokens statement lacks keeps more.value more.next r (keeps s at (Ok more) sound p) rest

  kept_led : (leads : Bool) (inside : Statement S) → Keeps P inside → Keeps P (IsLed leads inside)
  kept_led true inside keeps s at r sound is = keeps s (at + 1) r sound is
  kept_led false inside keeps s at r sound is = kept_same s at r sound is

  module _ (kind : Kind S) (tokens : List Token) (first : (depths : ℕ) (led : Bool) → Keeps P (kind.first depths led)) (statement : (depths : ℕ) → Keeps P (kind.statement depths)) where
    kept_braced : (depths : ℕ) (inside : Statement S) → Keeps P inside → Keeps P (IsBraced kind tokens depths inside)
    kept_braced depths inside keeps s at r sound block =
        kept_then (λ b. P b.value) block (λ start opens more.
        kept_then (λ b. P b.value) more (λ led leads more.
        kept_then (λ b. P b.value) more (λ begun begins more.
        kept_statements tokens (kind.statement (depths - 1)) kind.lacks (statement (depths - 1)) begun.value begun.next r
        (first (depths - 1) _ led.value led.next (Ok begun) (kept_led _ inside keeps s start (Ok led) sound leads) begins) more)))

    kept_own : (depths : ℕ) → Keeps P (IsOwn kind tokens depths)
    unfolding IsOwn
    kept_own zero s at r sound block = absurd block
    kept_own (suc depths) s at r sound block = kept_braced depths (IsOwn kind tokens depths) (kept_own depths) s at r sound block

    -- what its parts keep, a block keeps
    pub kept_block : (depths : ℕ) → Keeps P (IsBlock kind tokens depths)
    kept_block depths s at r sound block = kept_braced depths (IsOwn kind tokens depths) (kept_own depths) s at r sound block

-- ---- ranges

pub and_split : (a b : Bool) → (a && b) ≡ true → (a ≡ true) × (b ≡ true)
and_split true b h = (refl, h)
and_split false b h = absurd (cc)

kept_in : {A : Type 0} (Q : A → Type 0) (inside : Bool) (a : A) (place : Place) → (inside ≡ true → Q a) → IfOk (in_range inside a place) Q
kept_in Q true a place holds = holds refl
kept_in Q false a place holds = tt

pub kept_checked : {A : Type 0} (Q : A → Type 0) (inside : A → Bool) (value : Option A) (place : Place) → ((a : A) → inside a ≡ true → Q a) → IfOk (checked inside value place) Q
kept_checked Q inside None place holds = tt
kept_checked Q inside (Some a) place holds = kept_in Q (inside a) a place (holds a)

pub int_test : (a b : ℤ) → int_le a b ≡ true → a ≤ℤ b
int_test a b h = grind (arith, ints)

pub between : (low high z : ℤ) → is_between low high z ≡ true → (low ≤ℤ z) × (z ≤ℤ high)
between low high z h = let k = and_split (int_le low z) (int_le z high) h in (int_test low z k.0, int_test z high k.1)

pub amount_of : (most : ℕ) (z : ℤ) → is_between (pos 0) (pos most) z ≡ true → IsAmount most z
amount_of most z h = let k = between (pos 0) (pos most) z h in record { low = k.0; high = omega (arith, ints, k.0, k.1) }

pub amounts_of : (most : ℕ) (c : List ℤ) → are_between (pos 0) (pos most) c ≡ true → AreAmounts most c
amounts_of most c h =
    let k = and_split (is_between (pos 0) (pos most) (number_at c 0)) _ h in
    let m = and_split (is_between (pos 0) (pos most) (number_at c 1)) _ k.1 in
    record { first = amount_of most (number_at c 0) k.0; second = amount_of most (number_at c 1) m.0; third = amount_of most (number_at c 2) m.1 }

pub rgbft_of : (c : List ℤ) → is_colour c ≡ true → IsRgbft c
rgbft_of c h =
    let k = and_split (are_between (pos 0) (pos 16777216) c) _ h in
    let m = and_split (is_between (pos 0) (pos 65536) (number_at c 3)) _ k.1 in
    record { rgb = amounts_of 16777216 c k.0; filter = amount_of 65536 (number_at c 3) m.0; transmit = amount_of 65536 (number_at c 4) m.1 }

-- a float from 0 to a greatest one
pub kept_float : (most : ℕ) (value : Value) (place : Place) → IfOk (float_of (pos 0) (pos most) value place) (IsAmount most)
kept_float most value place = kept_checked (IsAmount most) (is_between (pos 0) (pos most)) (float_in value) place (amount_of most)

pub kept_rgb : (most : ℕ) (value : Value) (place : Place) → IfOk (rgb_of (pos most) value place) (AreAmounts most)
kept_rgb most value place = kept_checked (AreAmounts most) (are_between (pos 0) (pos most)) (rgb_from (colour_in value)) place (amounts_of most)

pub kept_colour : (value : Value) (place : Place) → IfOk (colour_of value place) IsRgbft
kept_colour value place = kept_checked IsRgbft is_colour (colour_in value) place rgbft_of

-- ---- steps of transforms keep the sizes of their numbers

small_part : (most : ℕ) (z : ℤ) → nat_le (unsigned_abs z) most ≡ true → unsigned_abs z ≤ most
small_part most z e = grind (arith, nat_tests)

pub row_of_test : (most : ℕ) (v : List ℤ) → is_row_within most v ≡ true → IsRowWithin most v
row_of_test most v h =
    let k = and_split (nat_le (unsigned_abs (component v 0)) most) _ h in
    let m = and_split (nat_le (unsigned_abs (component v 1)) most) _ k.1 in
    record { first = small_part most (component v 0) k.0; second = small_part most (component v 1) m.0; third = small_part most (component v 2) m.1 }

matrix_of_test : (most : ℕ) (m : List (List ℤ)) → is_matrix_within most m ≡ true → IsMatrixWithin most m
matrix_of_test most m h =
    let k = and_split (is_row_within most (row_at m 0)) _ h in
    let l = and_split (is_row_within most (row_at m 1)) _ k.1 in
    record { first = row_of_test most (row_at m 0) k.0; second = row_of_test most (row_at m 1) l.0; third = row_of_test most (row_at m 2) l.1 }

pub vector_of_test : (most : ℕ) (v : V3) → is_vector_within most v ≡ true → IsVectorWithin most v
vector_of_test most v h =
    let k = and_split (nat_le (unsigned_abs v.x) most) _ h in
    let m = and_split (nat_le (unsigned_abs v.y) most) _ k.1 in
    record { first = small_part most v.x k.0; second = small_part most v.y m.0; third = small_part most v.z m.1 }

placed_by : (x : Xform) (m n anchor : Bool) → (m ≡ true → IsMatrixWithin (2 ^ 44) x.m) → (n ≡ true → IsMatrixWithin (2 ^ 44) x.n) → (anchor ≡ true → IsVectorWithin (2 ^ 28) x.anchor)
    → IfOk (if m && n then (if anchor then Ok x else Err XformFault.AnchorRange) else Err XformFault.EntryRange) IsPlaced
placed_by x true true true h k l = record { m = h refl; n = k refl; anchor = l refl }
placed_by x true true false h k l = tt
placed_by x true false anchor h k l = tt
placed_by x false n anchor h k l = tt

world_placed : (x : Xform) → IfOk (in_the_world x) IsPlaced
world_placed x =
    placed_by x (is_matrix_within (2 ^ 44) x.m) (is_matrix_within (2 ^ 44) x.n) (is_vector_within (2 ^ 28) x.anchor)
    (matrix_of_test (2 ^ 44) x.m) (matrix_of_test (2 ^ 44) x.n) (vector_of_test (2 ^ 28) x.anchor)

after_placed : {A : Type 0} (m : Result A XformFault) (next : A → Result Xform XformFault) → ((a : A) → IfOk (next a) IsPlaced) → IfOk (after m next) IsPlaced
after_placed (Ok a) next holds = holds a
after_placed (Err fault) next holds = tt

refused_or : (refused : Bool) (fault : XformFault) (m : Result Xform XformFault) → IfOk m IsPlaced → IfOk (if refused then Err fault else m) IsPlaced
refused_or true fault m holds = tt
refused_or false fault m holds = holds

taken_or : (taken : Bool) (fault : XformFault) (m : Result Xform XformFault) → IfOk m IsPlaced → IfOk (if taken then m else Err fault) IsPlaced
taken_or true fault m holds = holds
taken_or false fault m holds = tt

-- what a step leaves has the sizes that a transform may have
pub then_placed : (x : Xform) (step : Step) → IfOk (then_of x step) IsPlaced
unfolding then_of
then_placed x (Step.Translate t) = world_placed (translated x t)
then_placed x (Step.Scale s) = refused_or (has_zero s) XformFault.Singular (in_the_world (scaled x s)) (world_placed (scaled x s))
then_placed x (Step.Rotate v) =
    after_placed (in_the_world (turned x (about_x v.x))) (λ y. after (in_the_world (turned y (about_y v.y))) (λ z. in_the_world (turned z (about_z v.z)))) (λ y.
    after_placed (in_the_world (turned y (about_y v.y))) (λ z. in_the_world (turned z (about_z v.z))) (λ z.
    world_placed (turned z (about_z v.z))))
then_placed x (Step.Matrix v) =
    taken_or (is_matrix_within (2 ^ 38) (linear_part v)) XformFault.EntryRange (by_linear x (linear_part v) (translation_part v))
    (after_placed (inverted (linear_part v)) (λ inverse. in_the_world (multiplied x (linear_part v) inverse (translation_part v))) (λ inverse. world_placed (multiplied x (linear_part v) inverse (translation_part v))))

pub start_placed : IsPlaced start_of
start_placed = record {
  m = record { first = record { first = omega arith; second = omega arith; third = omega arith }; second = record { first = omega arith; second = omega arith; third = omega arith }; third = record { first = omega arith; second = omega arith; third = omega arith } };
  n = record { first = record { first = omega arith; second = omega arith; third = omega arith }; second = record { first = omega arith; second = omega arith; third = omega arith }; third = record { first = omega arith; second = omega arith; third = omega arith } };
  anchor = record { first = omega arith; second = omega arith; third = omega arith };
}

and_placed : (x : Result Xform XformFault) (xs : Result (List Xform) XformFault) → IfOk x IsPlaced → IfOk xs (All IsPlaced) → IfOk (and_moved x xs) (All IsPlaced)
and_placed (Ok x) (Ok xs) here rest = All-cons IsPlaced x xs here rest
and_placed (Ok x) (Err fault) here rest = tt
and_placed (Err fault) xs here rest = tt

all_placed : (step : Step) (xs : List Xform) → IfOk (all_moved step xs) (All IsPlaced)
all_placed step [] = All-nil IsPlaced
all_placed step (x ∷ xs) = and_placed (then_of x step) (all_moved step xs) (then_placed x step) (all_placed step xs)

placed_kept : {A : Type 0} (Q : A → Type 0) (place : Place) (m : Result A XformFault) → IfOk m Q → IfOk (placed place m) Q
placed_kept Q place (Ok a) holds = holds
placed_kept Q place (Err fault) holds = tt

module _ (tokens : List Token) (set : Settings) where
  moving_placed : (depths : ℕ) (inside : Moving) → Keeps (All IsPlaced) inside → (part : StepPart) → Keeps (All IsPlaced) (IsMoved tokens set depths inside part)
  moving_placed depths inside keeps (StepPart.One word) xs at r sound read =
      kept_then (λ b. All IsPlaced b.value) read (λ step found is.
      kept_is (λ b. All IsPlaced b.value) (behind (moved_by step.value _ xs) step.next) r is (kept_behind (All IsPlaced) (moved_by step.value _ xs) step.next (placed_kept (All IsPlaced) _ (all_moved step.value xs) (all_placed step.value xs))))
  moving_placed depths inside keeps StepPart.Many xs at r sound read =
      kept_then (λ b. All IsPlaced b.value) read (λ start opens more. kept_statements (All IsPlaced) tokens inside (λ xforms. None) keeps xs start r sound more)
  moving_placed depths inside keeps StepPart.Neither xs at r sound read = kept_refused (All IsPlaced) _ r read

  inside_placed : (depths : ℕ) → Keeps (All IsPlaced) (IsInside tokens set depths)
  unfolding IsInside
  inside_placed zero xs at r sound read = absurd read
  inside_placed (suc depths) xs at r sound read = moving_placed depths (IsInside tokens set depths) (inside_placed depths) _ xs at r sound read

  pub moved_placed : (depths : ℕ) → Keeps (All IsPlaced) (IsMovedIn tokens set depths)
  moved_placed depths xs at r sound read = moving_placed depths (IsInside tokens set depths) (inside_placed depths) _ xs at r sound read

-- of one thing that is moved
pub one_placed : (x : Xform) (xs : List Xform) → IsPlaced x → All IsPlaced xs → IsPlaced (slice_index_or xs 0 x)
one_placed x [] own all = own
one_placed x (y ∷ ys) own all = all 0 x (omega arith)

pub first_placed : (x : Xform) → IsPlaced x → All IsPlaced (x ∷ [])
first_placed x own = All-cons IsPlaced x [] own (All-nil IsPlaced)
