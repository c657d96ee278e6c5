-- Blocks: braces round statements. A block of the same word may stand first, whose contents come first. (Reference manual, identifiers of blocks)
use Rattle.std.specs.Prelude.{◌≡◌, ℕ, zero, suc, ◌+◌, ◌-◌, Bool, true, false, List, nat_eq, Option, Some, None, Result, Ok, Err}
use Rattle.scene_lexer.specs.declared.sign.TheConstants.{CLOSE_BRACE}
use Rattle.scene_lexer.specs.declared.token.Token.{Token}
use Rattle.scene_expr.specs.Heads.{place_at, sign_at}
use Rattle.scene_expr.specs.Then.{IsThen, Is}
use Rattle.item_blocks.specs.declared.fault.ParseFault.{ParseFault}
use Rattle.item_blocks.specs.declared.fault.Wanted.{Wanted}
use Rattle.item_blocks.specs.declared.words.Word.{Word}
use Rattle.item_blocks.specs.Tokens.{word_at, opened, Behind, Reading}

-- what comes of a block's state and the tokens from a place on
abbrev pub Statement : Type 0 → Type 1
Statement S = S → Reading S

-- a block is closed, unless it lacks something
abbrev pub closed : {S : Type 0} → List Token → Option Wanted → S → ℕ → Result (Behind S) ParseFault
closed tokens None s at = Ok (record { value = s; next = at + 1 })
closed tokens (Some kind) s at = Err (ParseFault.Expected (place_at tokens at) kind)

-- statements up to the closing brace
pub data IsStatements {S : Type 0} (tokens : List Token) (statement : Statement S) (lacks : S → Option Wanted) : S → ℕ → Result (Behind S) ParseFault → Type 0 where
  ends : (s : S) (at : ℕ) → nat_eq (sign_at tokens at) CLOSE_BRACE ≡ true → IsStatements tokens statement lacks s at (closed tokens (lacks s) s at)
  fault : (s : S) (at : ℕ) (f : ParseFault) → nat_eq (sign_at tokens at) CLOSE_BRACE ≡ false → statement s at (Err f) → IsStatements tokens statement lacks s at (Err f)
  further : (s : S) (at : ℕ) (more : Behind S) (r : Result (Behind S) ParseFault) → nat_eq (sign_at tokens at) CLOSE_BRACE ≡ false → statement s at (Ok more) → IsStatements tokens statement lacks more.value more.next r → IsStatements tokens statement lacks s at r

-- what stands first: a block of the own word, if its word stands there
abbrev pub IsLed : {S : Type 0} → Bool → Statement S → Statement S
IsLed true inside s at r = inside s (at + 1) r
IsLed false inside s at r = r ≡ Ok (record { value = s; next = at })

-- what a kind of block holds: its own word, what stands before its statements (told whether an own block led), a statement, and what it lacks
-- where it is closed. The number says how many further braces may be open inside.
pub record Kind (S : Type 0) : Type 1 where
  pub leads : Option Word → Bool
  pub first : ℕ → Bool → Statement S
  pub statement : ℕ → Statement S
  pub lacks : S → Option Wanted

abbrev pub IsBraced : {S : Type 0} → Kind S → List Token → ℕ → Statement S → Statement S
IsBraced {S} kind tokens depths inside s at r =
    IsThen ℕ (Behind S) ParseFault (Is (opened tokens depths at)) (λ start.
    IsThen (Behind S) (Behind S) ParseFault (IsLed (kind.leads (word_at tokens start)) inside s start) (λ led.
    IsThen (Behind S) (Behind S) ParseFault (kind.first (depths - 1) (kind.leads (word_at tokens start)) led.value led.next) (λ begun.
    IsStatements tokens (kind.statement (depths - 1)) kind.lacks begun.value begun.next))) r

-- a block inside its own kind, where so many further braces may be open before the outer one: none where none may
unfoldable pub IsOwn : {S : Type 0} → Kind S → List Token → ℕ → Statement S
IsOwn kind tokens zero s at r = ⊥
IsOwn kind tokens (suc depths) s at r = IsBraced kind tokens depths (IsOwn kind tokens depths) s at r

-- a block, from its opening brace on, where so many further braces may be open
abbrev pub IsBlock : {S : Type 0} → Kind S → List Token → ℕ → Statement S
IsBlock kind tokens depths s at r = IsBraced kind tokens depths (IsOwn kind tokens depths) s at r

-- nothing stands before the statements
abbrev pub IsNothing : {S : Type 0} → Statement S
IsNothing s at r = r ≡ Ok (record { value = s; next = at })
