-- A number as a token, from its value.
use Rattle.std.proofs.Common.{◌≡◌, ℕ, ℤ, List, Option, Some, None, Result, Ok, Err, Bool, true, false, cond, refl}
use Rattle.scene_lexer.specs.Alone.{start, value_in, value_of}
use Rattle.scene_lexer.specs.Tokens.{number_of, is_out_of_range, raw_of}
use Rattle.scene_lexer.specs.declared.token.Kind.{Kind}
use Rattle.scene_lexer.specs.declared.token.Kind.TheVariants.{Number}
use Rattle.scene_lexer.specs.declared.token.LexFault.{LexFault}
use Rattle.scene_lexer.specs.declared.token.LexFault.TheVariants.{NumberRange}
use Rattle.scene_lexer.specs.declared.token.Place.{Place}
use Rattle.scene_lexer.proofs.number.number_of.Goals as goal

abbrev token_of : Place → Option ℤ → Result Kind LexFault
token_of place (Some value) = Ok (Number value)
token_of place None = Err (NumberRange place)

by_range : (place : Place) (out : Bool) (raw : ℤ) → token_of place (value_in (cond out (Err (NumberRange start)) (Ok (Number raw)))) ≡ cond out (Err (NumberRange place)) (Ok (Number raw))
by_range place true raw = refl
by_range place false raw = refl

token-is : (place : Place) (s : List ℕ) → token_of place (value_of s) ≡ number_of place s
unfolding number_of
token-is place s = by_range place (is_out_of_range s) (raw_of s)

some-is : (place : Place) (s : List ℕ) (value : ℤ) → Some value ≡ value_of s → Ok (Number value) ≡ number_of place s
some-is place s value is = let e = token-is place s in cc

none-is : (place : Place) (s : List ℕ) → None ≡ value_of s → Err (NumberRange place) ≡ number_of place s
none-is place s is = let e = token-is place s in cc

pub returns-in-Some : goal.returns-in-Some
returns-in-Some c = some-is c.args.place c.args.number.now c.in-Some.value c.in-Some.ensures

pub returns-in-None : goal.returns-in-None
returns-in-None c = none-is c.args.place c.args.number.now c.in-None.ensures
