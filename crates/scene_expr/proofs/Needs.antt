-- Where memory is needed: a text that is made, or six parts of a row.
use Rattle.std.proofs.Common.{ℕ, zero, suc, ◌≡◌, ◌≤◌, ◌+◌, ◌-◌, Bool, true, false, cond, ◌||◌, nat_eq, nat_le, List, [], ◌∷◌, drop, sym, ap, ◌∙◌, subst, refl, arith, Option, Some, None, Ok}
use Rattle.std.specs.Prelude.{count_by, if◌then◌else◌}
use Rattle.std.specs.List.{list_any}
use Rattle.std.proofs.lemmas.List.{drop-drop}
use Rattle.std.proofs.lemmas.List.Sums.{sum_by-cons, sum_by-take-drop}
use Rattle.scene_lexer.specs.declared.token.Kind.{Kind}
use Rattle.scene_lexer.specs.declared.token.Place.{Place}
use Rattle.scene_lexer.specs.declared.token.Token.{Token}
use Rattle.scene_expr.specs.Calls.{makes_text}
use Rattle.scene_expr.specs.Grammar.{goes_on}
use Rattle.scene_expr.specs.Heads.{sign_at, sign_of, head_at, head_of, word_head, prefix_head}
use Rattle.scene_expr.specs.Memory.{needs_memory, tells_text, calls_text, is_comma}
use Rattle.scene_expr.specs.Words.{word_of}
use Rattle.scene_expr.specs.declared.heads.Head.{Head}
use Rattle.scene_expr.specs.declared.heads.Opener.{Opener}
use Rattle.scene_expr.specs.declared.operators.Prefix.{Prefix}
use Rattle.scene_expr.specs.declared.words.Arity.{Arity}
use Rattle.scene_expr.specs.declared.words.Call.{Call}
use Rattle.scene_expr.specs.declared.words.Word.{Word}

abbrev pub commas : List Token → ℕ
commas tokens = count_by (λ token. is_comma token.kind) tokens

-- ---- what is needed behind a place is needed from there on

needs_cons : (token : Token) (tokens : List Token) → needs_memory tokens ≡ true → needs_memory (token ∷ tokens) ≡ true
needs_cons token tokens h =
    by (tells_text token.kind) (list_any (λ token. tells_text token.kind) tokens) (commas tokens) (commas (token ∷ tokens))
    (omega (arith, sum_by-cons (λ token. cond (is_comma token.kind) 1 0) token tokens)) h
  where
    by : (t a : Bool) (n m : ℕ) → n ≤ m → (a || nat_le 5 n) ≡ true → ((t || a) || nat_le 5 m) ≡ true
    by true a n m le h = refl
    by false true n m le h = refl
    by false false n m le h = grind arith

needs_drop : (k : ℕ) (tokens : List Token) → needs_memory (drop k tokens) ≡ true → needs_memory tokens ≡ true
needs_drop zero tokens h = h
needs_drop (suc k) [] h = h
needs_drop (suc k) (token ∷ tokens) h = needs_cons token tokens (needs_drop k tokens h)

pub later : (tokens : List Token) (at next : ℕ) → at ≤ next → needs_memory (drop next tokens) ≡ true → needs_memory (drop at tokens) ≡ true
later tokens at next below h =
    let same : at + (next - at) ≡ next = omega arith in
    needs_drop (next - at) (drop at tokens)
    (subst (λ rest. needs_memory rest ≡ true) (sym (drop-drop (next - at) at tokens)) (subst (λ k. needs_memory (drop k tokens) ≡ true) (sym same) h))

-- ---- a token that makes a text

token_needs : (token : Token) (tokens : List Token) → tells_text token.kind ≡ true → needs_memory (token ∷ tokens) ≡ true
token_needs token tokens tells =
    ap (λ t. (t || list_any (λ token. tells_text token.kind) tokens) || nat_le 5 (commas (token ∷ tokens))) tells

word_no_text : (word : Option Word) → word_head word ≡ Head.Text → ⊥
word_no_text None is = absurd (cc is)
word_no_text (Some (Word.Constant constant)) is = absurd (cc is)
word_no_text (Some (Word.Call call)) is = absurd (cc is)
word_no_text (Some Word.Colour) is = absurd (cc is)
word_no_text (Some (Word.Form form)) is = absurd (cc is)
word_no_text (Some (Word.Channel channel)) is = absurd (cc is)

-- what a sign begins
abbrev sign_cases : Bool → Bool → Option Prefix → Head
sign_cases bracket angle prefix =
    if bracket then Head.Opener Opener.Bracket else (if angle then Head.Opener Opener.Angle else prefix_head prefix)

sign_no_text : (bracket angle : Bool) (prefix : Option Prefix) → sign_cases bracket angle prefix ≡ Head.Text → ⊥
sign_no_text true angle prefix is = absurd (cc is)
sign_no_text false true prefix is = absurd (cc is)
sign_no_text false false None is = absurd (cc is)
sign_no_text false false (Some sign) is = absurd (cc is)

sign_no_call : (call : Call) (bracket angle : Bool) (prefix : Option Prefix) → sign_cases bracket angle prefix ≡ Head.Opener (Opener.Call call) → ⊥
sign_no_call call true angle prefix is = absurd (cc is)
sign_no_call call false true prefix is = absurd (cc is)
sign_no_call call false false None is = absurd (cc is)
sign_no_call call false false (Some sign) is = absurd (cc is)

text_tells : (kind : Kind) (place : Place) (to : ℕ) → head_of (Some (record { kind = kind; place = place; to = to })) ≡ Head.Text → tells_text kind ≡ true
text_tells (Kind.Word word) place to is = absurd (word_no_text (word_of word) is)
text_tells (Kind.Number value) place to is = absurd (cc is)
text_tells (Kind.Text text) place to is = refl
text_tells (Kind.Sign code) place to is = absurd (sign_no_text _ _ _ is)

pub text_needs : (tokens : List Token) (at : ℕ) → head_at tokens at ≡ Head.Text → needs_memory (drop at tokens) ≡ true
text_needs [] at is = absurd (cc is)
text_needs (token ∷ tokens) zero is = token_needs token tokens (text_tells token.kind token.place token.to is)
text_needs (token ∷ tokens) (suc at) is = text_needs tokens at is

call_is : (call : Call) (word : Option Word) → word_head word ≡ Head.Opener (Opener.Call call) → makes_text call ≡ true → calls_text word ≡ true
call_is call None is makes = absurd (cc is)
call_is call (Some (Word.Constant constant)) is makes = absurd (cc is)
call_is call (Some (Word.Call one)) is makes = let same : call ≡ one = cc is in subst (λ c. makes_text c ≡ true) same makes
call_is call (Some Word.Colour) is makes = absurd (cc is)
call_is call (Some (Word.Form form)) is makes = absurd (cc is)
call_is call (Some (Word.Channel channel)) is makes = absurd (cc is)

call_tells : (call : Call) (kind : Kind) (place : Place) (to : ℕ) → head_of (Some (record { kind = kind; place = place; to = to })) ≡ Head.Opener (Opener.Call call) → makes_text call ≡ true → tells_text kind ≡ true
call_tells call (Kind.Word word) place to is makes = call_is call (word_of word) is makes
call_tells call (Kind.Number value) place to is makes = absurd (cc is)
call_tells call (Kind.Text text) place to is makes = absurd (cc is)
call_tells call (Kind.Sign code) place to is makes = absurd (sign_no_call call _ _ _ is)

pub call_needs : (call : Call) (tokens : List Token) (at : ℕ) → head_at tokens at ≡ Head.Opener (Opener.Call call) → makes_text call ≡ true → needs_memory (drop at tokens) ≡ true
call_needs call [] at is makes = absurd (cc is)
call_needs call (token ∷ tokens) zero is makes = token_needs token tokens (call_tells call token.kind token.place token.to is makes)
call_needs call (token ∷ tokens) (suc at) is makes = call_needs call tokens at is makes

-- ---- commas

pub commas_need : (tokens : List Token) → 5 ≤ commas tokens → needs_memory tokens ≡ true
commas_need tokens many = by (list_any (λ token. tells_text token.kind) tokens) (commas tokens) many
  where
    by : (a : Bool) (n : ℕ) → 5 ≤ n → (a || nat_le 5 n) ≡ true
    by true n many = refl
    by false n many = grind arith

pub commas_later : (tokens : List Token) (at next : ℕ) → at ≤ next → commas (drop next tokens) ≤ commas (drop at tokens)
commas_later tokens at next below =
    let same : at + (next - at) ≡ next = omega arith in
    let rest : commas (drop (next - at) (drop at tokens)) ≡ commas (drop next tokens) = ap commas (drop-drop (next - at) at tokens) ∙ ap (λ k. commas (drop k tokens)) same in
    omega (arith, rest, sum_by-take-drop (λ token. cond (is_comma token.kind) 1 0) (drop at tokens) (next - at))

comma_kind : (kind : Kind) (place : Place) (to : ℕ) → nat_eq (sign_of (Some (record { kind = kind; place = place; to = to }))) 44 ≡ true → is_comma kind ≡ true
comma_kind (Kind.Word word) place to is = absurd (cc is)
comma_kind (Kind.Number value) place to is = absurd (cc is)
comma_kind (Kind.Text text) place to is = absurd (cc is)
comma_kind (Kind.Sign code) place to is = is

one_first : (v : Bool) (n m : ℕ) → v ≡ true → m ≡ cond v 1 0 + n → n + 1 ≤ m
one_first true n m is same = omega arith
one_first false n m is same = absurd (cc is)

pub comma_here : (tokens : List Token) (at : ℕ) → nat_eq (sign_at tokens at) 44 ≡ true → commas (drop (at + 1) tokens) + 1 ≤ commas (drop at tokens)
comma_here [] at is = absurd (cc is)
comma_here (token ∷ tokens) zero is =
    one_first (is_comma token.kind) (commas tokens) (commas (token ∷ tokens)) (comma_kind token.kind token.place token.to is)
    (sum_by-cons (λ token. cond (is_comma token.kind) 1 0) token tokens)
comma_here (token ∷ tokens) (suc at) is =
    let same : suc at + 1 ≡ suc (at + 1) = omega arith in
    subst (λ k. commas (drop k (token ∷ tokens)) + 1 ≤ commas (drop at tokens)) (sym same) (comma_here tokens at is)

pub goes_comma : (arity : Arity) (count : ℕ) (tokens : List Token) (at : ℕ) → goes_on arity count tokens at ≡ Ok true → nat_eq (sign_at tokens at) 44 ≡ true
goes_comma arity count tokens at may = grind arith
