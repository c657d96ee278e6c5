-- What is open at a place of a text.
use Rattle.std.proofs.Common.{ℕ, nat_eq, slice_get, None, if◌then◌else◌, suc, zero, ◌≡◌, ◌+◌, ◌<◌, refl, sym, ap, ◌∙◌, subst, arith, List, [], ◌∷◌, length, drop, Result, Ok, Err, Option}
use Rattle.std.specs.Result.{IfErr, IsErrAnd}
use Rattle.text_structure.specs.declared.mark.Directive.{Directive}
use Rattle.text_structure.specs.declared.mark.Mark.{Mark}
use Rattle.text_structure.specs.declared.levels.Level.{Level}
use Rattle.text_structure.specs.declared.levels.Misplaced.{Misplaced}
use Rattle.text_structure.specs.Turns.{directive_at, directive_in, sign_at}
use Rattle.text_structure.specs.Levels.{left_open, further_open, structure, structure_by}

directive_next : (m : Mark) (further : List Mark) (at : ℕ) → directive_at (m ∷ further) (suc at) ≡ directive_at further at
directive_next m further at =
    let same : suc at + 1 ≡ suc (at + 1) = omega arith in
    ap (λ k. if nat_eq (sign_at further at) 35 then directive_in (slice_get (m ∷ further) k) else None) same

-- what is left of a text begins with its directive
pub stepped : (m : List Mark) (at place : ℕ) (levels : List Level) → at < length m → left_open (drop at m) place levels ≡ further_open (directive_at m at) place levels (left_open (drop (suc at) m) (suc place))
stepped [] at place levels within = absurd (omega (arith, within))
stepped (m ∷ further) zero place levels within = refl
stepped (m ∷ further) (suc at) place levels within =
    stepped further at place levels (omega (arith, within)) ∙ ap (λ d. further_open d place levels (left_open (drop (suc at) further) (suc place))) (sym (directive_next m further at))

pub goes_on : (m : List Mark) (at : ℕ) (levels levels' : List Level) (directive : Option Directive) → at < length m → directive ≡ directive_at m at → ((further : List Level → Result (List Level) ℕ) → further_open directive at levels further ≡ further levels') → left_open (drop at m) at levels ≡ left_open m 0 [] → left_open (drop (at + 1) m) (at + 1) levels' ≡ left_open m 0 []
goes_on m at levels levels' directive within is step whole =
    let same : suc at ≡ at + 1 = omega arith in
    subst (λ k. left_open (drop k m) k levels' ≡ left_open m 0 []) same
    (sym (step (left_open (drop (suc at) m) (suc at))) ∙ ap (λ d. further_open d at levels (left_open (drop (suc at) m) (suc at))) is ∙ sym (stepped m at at levels within) ∙ whole)

pub strays : (m : List Mark) (at : ℕ) (levels : List Level) (directive : Option Directive) (f : Misplaced) → at < length m → directive ≡ directive_at m at → f ≡ Misplaced.Stray at → ((further : List Level → Result (List Level) ℕ) → further_open directive at levels further ≡ Err at) → left_open (drop at m) at levels ≡ left_open m 0 [] → structure m ≡ Err f
strays m at levels directive f within is fault step whole =
    ap structure_by (sym whole ∙ stepped m at at levels within ∙ sym (ap (λ d. further_open d at levels (left_open (drop (suc at) m) (suc at))) is) ∙ step (left_open (drop (suc at) m) (suc at))) ∙ ap Err (sym fault)

-- what holds of the fault holds at the exit of a `?`
pub exit : {T E : Type 0} → (Q : E → Type 0) (y : E) (r : Result T E) → IsErrAnd r (λ x. x ≡ y) → Q y → IfErr r Q
exit Q y (Ok t) is q = absurd is
exit Q y (Err x) is q = subst Q (sym is) q
