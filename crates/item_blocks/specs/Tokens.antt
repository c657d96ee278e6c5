-- What stands at a place of the tokens, and what is at fault where another token does.
use Rattle.std.specs.Prelude.{◌≡◌, ℕ, ◌+◌, List, [], ◌∷◌, drop, nat_eq, slice_get, if◌then◌else◌, Option, Some, None, Result, Ok, Err}
use Rattle.scene_lexer.specs.declared.sign.TheConstants.{OPEN_BRACE}
use Rattle.scene_lexer.specs.declared.token.Kind.{Kind}
use Rattle.scene_lexer.specs.declared.token.Place.{Place}
use Rattle.scene_lexer.specs.declared.token.Token.{Token}
use Rattle.scene_expr.specs.declared.value.ExprFault.{ExprFault}
use Rattle.scene_expr.specs.declared.value.Level.{Level}
use Rattle.scene_expr.specs.declared.value.Settings.{Settings}
use Rattle.scene_expr.specs.declared.words.WordClass.{WordClass}
use Rattle.scene_expr.specs.Grammar.{Read, IsValue}
use Rattle.scene_expr.specs.Heads.{place_at, sign_at, meaning_of}
use Rattle.scene_expr.specs.Words.{class_of}
use Rattle.item_blocks.specs.declared.fault.ParseFault.{ParseFault}
use Rattle.item_blocks.specs.declared.fault.Wanted.{Wanted}
use Rattle.item_blocks.specs.declared.words.Word.{Word}
use Rattle.item_blocks.specs.Words.{word_of}

-- what the word at a place says in an item; none for any other token, and for the end
abbrev pub word_at : List Token → ℕ → Option Word
word_at tokens at = meaning_of word_of (slice_get tokens at)

-- the word at a place, as it is spelled
abbrev pub spelling_at : List Token → ℕ → Option (List ℕ)
spelling_at tokens at = meaning_of (λ word. Some word) (slice_get tokens at)

-- a word that can't stand where it does is out of profile; another token, and the end, stand for what is wanted there
abbrev pub unfit : Wanted → Place → Option (List ℕ) → ParseFault
unfit kind place None = ParseFault.Expected place kind
unfit kind place (Some word) = ParseFault.OutOfProfile place word

abbrev pub unfit_at : Wanted → List Token → ℕ → ParseFault
unfit_at kind tokens at = unfit kind (place_at tokens at) (spelling_at tokens at)

-- the place behind a sign
abbrev pub passed : ℕ → Wanted → List Token → ℕ → Result ℕ ParseFault
passed sign kind tokens at = if nat_eq (sign_at tokens at) sign then Ok (at + 1) else Err (unfit_at kind tokens at)

-- the place behind an opening brace; where no further one may be open, it passes limit 8
abbrev pub opened : List Token → ℕ → ℕ → Result ℕ ParseFault
opened tokens depths at =
    if nat_eq (sign_at tokens at) OPEN_BRACE
    then (if nat_eq depths 0 then Err (ParseFault.Limit 8 (place_at tokens at)) else Ok (at + 1))
    else Err (unfit_at Wanted.OpenBrace tokens at)

-- a comma between parameters may be left out
abbrev pub behind_comma : List Token → ℕ → ℕ
behind_comma tokens at = if nat_eq (sign_at tokens at) 44 then at + 1 else at

-- ---- expressions

abbrev pub unknown_by : Option WordClass → List ℕ → Option (List ℕ)
unknown_by None word = Some word
unknown_by (Some class) word = None

-- a word that no expression knows
abbrev pub unknown_of : Kind → Option (List ℕ)
unknown_of (Kind.Word word) = unknown_by (class_of word) word
unknown_of other = None

abbrev pub or_else : {A : Type 0} → Option A → Option A → Option A
or_else (Some a) other = Some a
or_else None other = other

-- the first of them: an expression that meets an unknown word has passed none before
abbrev pub unknown_in : List Token → Option (List ℕ)
unknown_in [] = None
unknown_in (token ∷ tokens) = or_else (unknown_of token.kind) (unknown_in tokens)

-- a fault of an expression as one of the scene: an unknown word is out of profile, and what has no value or is out of range is out of a range here
abbrev pub fault_of : Option (List ℕ) → ExprFault → ParseFault
fault_of word (ExprFault.Expected place) = ParseFault.Expected place Wanted.Parameter
fault_of word (ExprFault.UnknownName place) = unfit Wanted.Parameter place word
fault_of word (ExprFault.Kind place) = ParseFault.Expected place Wanted.Parameter
fault_of word (ExprFault.ZeroDivisor place) = ParseFault.ValueRange place
fault_of word (ExprFault.Range place) = ParseFault.ValueRange place
fault_of word ExprFault.NoMemory = ParseFault.NoMemory

-- the longest sum from a token on, or its fault
abbrev pub IsExpression : List Token → Settings → ℕ → Result Read ParseFault → Type 0
IsExpression tokens set at (Ok read) = IsValue tokens set Level.Sum at (Ok read)
IsExpression tokens set at (Err f) =
    (fault : ExprFault) × IsValue tokens set Level.Sum at (Err fault) × (f ≡ fault_of (unknown_in (drop at tokens)) fault)

-- ---- what is read, and the token behind it

pub record Behind (A : Type 0) : Type 0 where
  pub value : A
  pub next : ℕ

abbrev pub behind : {A : Type 0} → Result A ParseFault → ℕ → Result (Behind A) ParseFault
behind (Ok a) next = Ok (record { value = a; next = next })
behind (Err f) next = Err f

-- what comes of the tokens from a place on
abbrev pub Reading : Type 0 → Type 1
Reading A = ℕ → Result (Behind A) ParseFault → Type 0
