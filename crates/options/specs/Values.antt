-- What the values of options mean. (Reference manual, command-line options and INI files)
use Rattle.std.specs.Prelude.{ℕ, ◌+◌, ◌-◌, ◌*◌, Bool, true, false, not, ◌&&◌, ◌==◌, nat_le, if◌then◌else◌, List, [], ◌∷◌, length, fold, ℤ, pos, neg_ℤ, ◌≤ℤ◌, Option, Some, None, option_map}
use Rattle.std.specs.List.{list_all}
use Rattle.fix_math.specs.Numbers.{IsInRange}
use Rattle.scene_lexer.specs.Alone.{number_in}
use Rattle.options.specs.declared.values.TheConstants.{TRUTHS}

-- a letter without its case
abbrev pub lower : ℕ → ℕ
lower b = if nat_le 65 b && nat_le b 90 then b + 32 else b

-- the text begins with these small letters, in either case
abbrev pub begins : List ℕ → List ℕ → Bool
begins [] text = true
begins (letter ∷ letters) [] = false
begins (letter ∷ letters) (b ∷ text) = lower b == letter && begins letters text

-- the text is these small letters, in either case
abbrev pub is_spelled : List ℕ → List ℕ → Bool
is_spelled letters text = length letters == length text && begins letters text

-- a whole number is one decimal digit or more
abbrev pub is_whole : List ℕ → Bool
is_whole s = not (length s == 0) && list_all (λ b. nat_le 48 b && nat_le b 57) s

-- the number that digits stand for, however many
abbrev pub whole_of : List ℕ → ℕ
whole_of s = fold (λ n b. 10 * n + (b - 48)) 0 s

-- the raw numbers that a number without a sign may have
abbrev pub IsUnsigned : ℤ → Type 0
IsUnsigned z = (pos 0 ≤ℤ z) × IsInRange z

-- a signed number is a number behind a sign, or without one
abbrev pub signed_in : List ℕ → Option ℤ
signed_in [] = number_in []
signed_in (b ∷ rest) =
    if b == 43 then number_in rest
    else (if b == 45 then option_map neg_ℤ (number_in rest) else number_in (b ∷ rest))

-- what the first entry says that is spelled like the text
abbrev pub truth_in : {E : Type 0} → (E → List ℕ) → (E → Bool) → List ℕ → List E → Option Bool
truth_in letters truth text [] = None
truth_in letters truth text (entry ∷ entries) =
    if is_spelled (letters entry) text then Some (truth entry) else truth_in letters truth text entries

-- a truth value: on, yes, true and 1, or off, no, false and 0
unfoldable pub truth_of : List ℕ → Option Bool
truth_of text = truth_in (λ entry. entry.0.now) (λ entry. entry.1) text TRUTHS
