-- What is passed over: a truth word, and what bounds an object. (Reference manual, bounded_by and hollow)
use Rattle.std.specs.Prelude.{◌≡◌, ℕ, zero, suc, ◌+◌, ◌-◌, ◌≤◌, ◌<◌, Bool, true, false, ◌||◌, List, [], ◌∷◌, length, nat_eq, Option, Some, None, Result, Ok, Err}
use Rattle.std.specs.Str.{bytes_eq}
use Rattle.scene_lexer.specs.declared.sign.TheConstants.{OPEN_BRACE, CLOSE_BRACE}
use Rattle.scene_lexer.specs.declared.token.Token.{Token}
use Rattle.scene_expr.specs.Heads.{sign_at}
use Rattle.scene_expr.specs.Then.{IsThen, Is}
use Rattle.item_blocks.specs.declared.fault.ParseFault.{ParseFault}
use Rattle.item_blocks.specs.declared.fault.Wanted.{Wanted}
use Rattle.item_blocks.specs.Tokens.{spelling_at, unfit_at, opened}

-- balanced braces from a token on, of which so many are open and so many may be: what stands between them isn't looked at
pub data IsSkipped (tokens : List Token) (depths : ℕ) : ℕ → ℕ → Result ℕ ParseFault → Type 0 where
  closed : (at : ℕ) → IsSkipped tokens depths zero at (Ok at)
  missing : (left at : ℕ) → length tokens ≤ at → IsSkipped tokens depths (suc left) at (Err (unfit_at Wanted.CloseBrace tokens at))
  too_deep : (left at : ℕ) (f : ParseFault) → nat_eq (sign_at tokens at) OPEN_BRACE ≡ true → Err f ≡ opened tokens (depths - suc left) at → IsSkipped tokens depths (suc left) at (Err f)
  opens : (left at next : ℕ) (r : Result ℕ ParseFault) → nat_eq (sign_at tokens at) OPEN_BRACE ≡ true → Ok next ≡ opened tokens (depths - suc left) at → IsSkipped tokens depths (suc (suc left)) next r → IsSkipped tokens depths (suc left) at r
  closes : (left at : ℕ) (r : Result ℕ ParseFault) → nat_eq (sign_at tokens at) CLOSE_BRACE ≡ true → IsSkipped tokens depths left (at + 1) r → IsSkipped tokens depths (suc left) at r
  further : (left at : ℕ) (r : Result ℕ ParseFault) → at < length tokens → nat_eq (sign_at tokens at) OPEN_BRACE ≡ false → nat_eq (sign_at tokens at) CLOSE_BRACE ≡ false → IsSkipped tokens depths (suc left) (at + 1) r → IsSkipped tokens depths (suc left) at r

-- the first brace stands here
abbrev pub IsPassedOver : List Token → ℕ → ℕ → Result ℕ ParseFault → Type 0
IsPassedOver tokens depths at r = IsThen ℕ ℕ ParseFault (Is (opened tokens depths at)) (λ next. IsSkipped tokens depths 1 next) r

-- ---- truth words

abbrev pub is_truth : Option (List ℕ) → Bool
is_truth None = false
is_truth (Some word) = bytes_eq word (116 ∷ 114 ∷ 117 ∷ 101 ∷ []) || (bytes_eq word (111 ∷ 110 ∷ []) || (bytes_eq word (121 ∷ 101 ∷ 115 ∷ []) || (bytes_eq word (102 ∷ 97 ∷ 108 ∷ 115 ∷ 101 ∷ []) || (bytes_eq word (111 ∷ 102 ∷ 102 ∷ []) || bytes_eq word (110 ∷ 111 ∷ [])))))

abbrev pub behind_if : Bool → ℕ → ℕ
behind_if true at = at + 1
behind_if false at = at

-- true, on, yes, false, off or no may stand here
abbrev pub behind_truth : List Token → ℕ → ℕ
behind_truth tokens at = behind_if (is_truth (spelling_at tokens at)) at
