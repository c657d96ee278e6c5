-- Steps of transforms: numbers of a matrix, and the braces of a transform.
use Rattle.std.proofs.Common.{◌≡◌, ◌<◌, ◌+◌, ◌-◌, ℕ, zero, suc, ℤ, List, [], ◌∷◌, ◌++◌, take, length, Result, Ok, Err, sym, subst, arith}
use Rattle.std.proofs.Math.ListN.{set}
use Rattle.std.proofs.lemmas.List.{take_more_set, take_all}
use Rattle.scene_lexer.specs.declared.token.Token.{Token as TextToken}
use Rattle.scene_expr.specs.declared.value.Settings.{Settings}
use Rattle.scene_expr.specs.Then.{IsThen}
use Rattle.xform.specs.declared.transform.Xform.{Xform}
use Rattle.item_blocks.specs.declared.fault.ParseFault.{ParseFault}
use Rattle.item_blocks.specs.declared.steps.StepPart.{StepPart}
use Rattle.item_blocks.specs.Tokens.{Behind, word_at}
use Rattle.item_blocks.specs.Parameters.{any_float_of, IsParameter}
use Rattle.item_blocks.specs.Steps.{divided, step_part, IsNumbers, IsSteps, IsBraces, IsMoved, IsInside, IsMovedIn}
use Rattle.item_blocks.specs.ReadingLaws.{same_value}

-- a number more of a matrix
pub numbers_further : (tokens : List TextToken) (settings : Settings) (count more : ℕ) (before : List ℤ) (at : ℕ) (number : ℤ) (end next : ℕ) (r : Result (Behind (List ℤ)) ParseFault) → count ≡ suc more → IsParameter ℤ any_float_of tokens settings at (Ok (record { value = number; next = end })) → Ok next ≡ divided more tokens end → IsNumbers tokens settings more (before ++ number ∷ []) next r → IsNumbers tokens settings count before at r
numbers_further tokens settings count more before at number end next r is read comma rest =
    subst (λ n. IsNumbers tokens settings n before at r) (sym is) (IsThen.found _ r read (IsThen.found next r comma rest))

pub numbers_fault : (tokens : List TextToken) (settings : Settings) (count more : ℕ) (before : List ℤ) (at : ℕ) (f : ParseFault) → count ≡ suc more → IsParameter ℤ any_float_of tokens settings at (Err f) → IsNumbers tokens settings count before at (Err f)
numbers_fault tokens settings count more before at f is p =
    subst (λ n. IsNumbers tokens settings n before at (Err f)) (sym is) (IsThen.fault f p)

pub numbers_undivided : (tokens : List TextToken) (settings : Settings) (count more : ℕ) (before : List ℤ) (at : ℕ) (number : ℤ) (end : ℕ) (f : ParseFault) → count ≡ suc more → IsParameter ℤ any_float_of tokens settings at (Ok (record { value = number; next = end })) → Err f ≡ divided more tokens end → IsNumbers tokens settings count before at (Err f)
numbers_undivided tokens settings count more before at number end f is read comma =
    subst (λ n. IsNumbers tokens settings n before at (Err f)) (sym is) (IsThen.found _ (Err f) read (IsThen.fault f comma))

-- the numbers that stand before, with one set behind them
pub numbers_all : (tokens : List TextToken) (set' : Settings) (count more i : ℕ) (v : List ℤ) (number : ℤ) (next : ℕ) (r : Result (Behind (List ℤ)) ParseFault) → count ≡ more → i < 12 → length v ≡ 12 → IsNumbers tokens set' count (take (i + 1) (set v i number)) next r → IsNumbers tokens set' more (take i v ++ number ∷ []) next r
numbers_all tokens set' count more i v number next r is few twelve rest =
    let front : take (i + 1) (set v i number) ≡ take i v ++ number ∷ [] = take_more_set v i number (omega (arith, few, twelve)) in
    subst (λ c. IsNumbers tokens set' c (take i v ++ number ∷ []) next r) is (subst (λ front. IsNumbers tokens set' count front next r) front rest)

-- all twelve
pub numbers_end : (tokens : List TextToken) (settings : Settings) (i : ℕ) (v : List ℤ) (next : ℕ) → i ≡ 12 → length v ≡ 12 → IsNumbers tokens settings (12 - i) (take i v) next (Ok (record { value = v; next = next }))
numbers_end tokens settings i v next is twelve =
    let all : v ≡ take 12 v = sym (take_all 12 v (omega (arith, twelve))) in
    subst (λ n. IsNumbers tokens settings (12 - n) (take n v) next (Ok (record { value = v; next = next }))) (sym is) (same_value v (take 12 v) next all)

-- ---- braces

-- what comes of the steps from a place on comes of the braces
abbrev pub Whole : List TextToken → Settings → ℕ → List Xform → ℕ → List Xform → ℕ → Type 0
Whole tokens settings depths xforms at now next =
    (r : Result (Behind (List Xform)) ParseFault) → IsSteps tokens (IsInside tokens settings depths) now next r → IsBraces tokens depths (IsInside tokens settings depths) xforms at r

-- what is read where one brace less may be open is read inside
pub inside_is : (tokens : List TextToken) (settings : Settings) (depths : ℕ) (xforms : List Xform) (at : ℕ) (r : Result (Behind (List Xform)) ParseFault) → 0 < depths → IsMovedIn tokens settings (depths - 1) xforms at r → IsInside tokens settings depths xforms at r
unfolding IsInside
inside_is tokens settings zero xforms at r some is = absurd (omega (arith, some))
inside_is tokens settings (suc depths) xforms at r some is =
    let e : suc depths - 1 ≡ depths = omega arith in
    subst (λ d. IsMoved tokens settings d (IsInside tokens settings d) (step_part (word_at tokens at)) xforms at r) e is

-- a step, a transform, and what is neither
pub by_part : (tokens : List TextToken) (settings : Settings) (depths : ℕ) (xforms : List Xform) (at : ℕ) (part : StepPart) (r : Result (Behind (List Xform)) ParseFault) → part ≡ step_part (word_at tokens at) → IsMoved tokens settings depths (IsInside tokens settings depths) part xforms at r → IsMovedIn tokens settings depths xforms at r
by_part tokens settings depths xforms at part r is moved =
    subst (λ p. IsMoved tokens settings depths (IsInside tokens settings depths) p xforms at r) is moved
