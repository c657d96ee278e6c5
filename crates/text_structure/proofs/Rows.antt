-- The entries of one token.
use Rattle.std.proofs.Common.{ℕ, ◌≡◌, ◌<◌, ◌+◌, nat_eq, nat_lt, Bool, true, false, ◌||◌, ◌&&◌, List, length, sym, ◌∙◌, refl, subst, arith}
use Rattle.text_structure.specs.declared.mark.Mark.{Mark}
use Rattle.text_structure.specs.declared.closer.Closer.{Closer}
use Rattle.text_structure.specs.declared.closer.Turn.{Turn}
use Rattle.text_structure.specs.Turns.{turn_at, sign_at, sign_turn}
use Rattle.text_structure.specs.Tables.{IsEntry, IsPlain, may_open, closes}
use Rattle.text_structure.proofs.Entries.{stopped, gone_over}

neither : (a b : Bool) → (a || b) ≡ false → (a ≡ false) × (b ≡ false)
neither true b is = absurd (cc is)
neither false b is = (refl, is)

both : (a b : Bool) → (a && b) ≡ true → (a ≡ true) × (b ≡ true)
both true b is = (refl, is)
both false b is = absurd (cc is)

-- the code opens nothing
record Opens (code : ℕ) : Type 0 where
  hash : nat_eq code 35 ≡ false
  round : nat_eq code 40 ≡ false
  square : nat_eq code 91 ≡ false
  curly : nat_eq code 123 ≡ false
  angle : nat_eq code 60 ≡ false

opens_nothing : (code : ℕ) → may_open code ≡ false → Opens code
opens_nothing code is =
    let e1 = neither _ _ is in let e2 = neither _ _ e1.0 in let e3 = neither _ _ e2.0 in let e4 = neither _ _ e3.0 in
    record { hash = e4.0; round = e4.1; square = e3.1; curly = e2.1; angle = e1.1 }

closing_is : (code sign : ℕ) → (nat_lt 0 code && nat_eq code sign) ≡ true → nat_eq code sign ≡ true
closing_is code sign is = (both (nat_lt 0 code) (nat_eq code sign) is).1

stops : (m : List Mark) (closer : Closer) (at code : ℕ) → Opens code → closes code closer ≡ true → sign_turn m closer at code ≡ Turn.Stop
stops m Closer.End at code it is = absurd (zero_is code is)
  where
    zero_is : (k : ℕ) → (nat_lt 0 k && nat_eq k 0) ≡ true → ⊥
    zero_is k e = grind arith
stops m Closer.Branch at code it is = absurd (zero_is code is)
  where
    zero_is : (k : ℕ) → (nat_lt 0 k && nat_eq k 0) ≡ true → ⊥
    zero_is k e = grind arith
stops m Closer.Parenthesis at code it is = let e = closing_is code 41 is in rw (it.round, e) refl
stops m Closer.Brace at code it is = let e = closing_is code 125 is in rw (it.curly, e) refl
stops m Closer.Semicolon at code it is = let e = closing_is code 59 is in rw (e) refl
stops m Closer.Comma at code it is = let e = closing_is code 44 is in rw (e) refl
stops m Closer.Round at code it is = let e = closing_is code 41 is in rw (e) refl
stops m Closer.Square at code it is = let e = closing_is code 93 is in rw (e) refl
stops m Closer.Curly at code it is = let e = closing_is code 125 is in rw (e) refl
stops m Closer.Angle at code it is = let e = closing_is code 62 is in rw (e) refl

-- a code that isn't the closing sign's, which isn't 0
other : (code sign : ℕ) → 0 < sign → (nat_lt 0 code && nat_eq code sign) ≡ false → nat_eq code sign ≡ false
other code sign some is = grind arith

passes : (m : List Mark) (closer : Closer) (at code : ℕ) → Opens code → closes code closer ≡ false → sign_turn m closer at code ≡ Turn.Over (at + 1)
passes m Closer.End at code it is = refl
passes m Closer.Branch at code it is = refl
passes m Closer.Parenthesis at code it is = let e = other code 41 (omega arith) is in rw (it.round, e) refl
passes m Closer.Brace at code it is = let e = other code 125 (omega arith) is in rw (it.curly, e) refl
passes m Closer.Semicolon at code it is = let e = other code 59 (omega arith) is in rw (e, it.round, it.square, it.curly, it.angle) refl
passes m Closer.Comma at code it is = let e = other code 44 (omega arith) is in rw (e, it.round, it.square, it.curly, it.angle) refl
passes m Closer.Round at code it is = let e = other code 41 (omega arith) is in rw (e, it.round, it.square, it.curly, it.angle) refl
passes m Closer.Square at code it is = let e = other code 93 (omega arith) is in rw (e, it.round, it.square, it.curly, it.angle) refl
passes m Closer.Curly at code it is = let e = other code 125 (omega arith) is in rw (e, it.round, it.square, it.curly, it.angle) refl
passes m Closer.Angle at code it is = let e = other code 62 (omega arith) is in rw (e, it.round, it.square, it.curly, it.angle) refl

-- what a plain token is to a list
plain_turn : (m : List Mark) (closer : Closer) (at code : ℕ) → IsPlain m at code → turn_at m closer at ≡ sign_turn m closer at code
plain_turn m closer at code is =
    let within : nat_lt at (length m) ≡ true = grind (arith, is.within) in
    let hash : nat_eq (sign_at m at) 35 ≡ false = subst (λ k. nat_eq k 35 ≡ false) is.sign (opens_nothing code is.opens).hash in
    let by_sign : turn_at m closer at ≡ sign_turn m closer at (sign_at m at) = rw (within, hash) refl in
    subst (λ k. turn_at m closer at ≡ sign_turn m closer at k) (sym is.sign) by_sign

pub closed : (m : List Mark) (closer : Closer) (at code : ℕ) → IsPlain m at code → closes code closer ≡ true → IsEntry m closer at at
closed m closer at code is closes' = stopped m closer at Turn.Stop (sym (plain_turn m closer at code is ∙ stops m closer at code (opens_nothing code is.opens) closes')) refl (omega (arith, is.within))

pub passed : (m : List Mark) (closer : Closer) (at code end : ℕ) → IsPlain m at code → closes code closer ≡ false → IsEntry m closer (at + 1) end → IsEntry m closer at end
passed m closer at code end is closes' rest = gone_over m closer at (at + 1) end (Turn.Over (at + 1)) (sym (plain_turn m closer at code is ∙ passes m closer at code (opens_nothing code is.opens) closes')) refl (omega arith) rest
