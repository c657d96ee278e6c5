-- The longest piece is the number.
use Rattle.std.proofs.Common.{◌≢◌, ◌≡◌, Err, ℕ, List, Bool, Result, Ok, true, false, length, arith, sym}
use Rattle.std.proofs.lemmas.List.{length-take-le}
use Rattle.scene_lexer.specs.Spellings.{is_number}
use Rattle.scene_lexer.proofs.LongestLemmas.{longest-le}
use Rattle.scene_lexer.proofs.FoundLemmas.{number_fault, number_found}
use Rattle.std.specs.Prelude.{if◌then◌else◌}
use Rattle.scene_lexer.specs.Tokens.{number_of, is_out_of_range, raw_of}
use Rattle.scene_lexer.specs.declared.token.Place.{Place}
use Rattle.scene_lexer.specs.declared.token.Kind.{Kind}
use Rattle.scene_lexer.specs.declared.token.Kind.TheVariants.{Number}
use Rattle.scene_lexer.specs.declared.token.LexFault.{LexFault}
use Rattle.scene_lexer.specs.declared.token.LexFault.TheVariants.{NumberRange, NoMemory}
use Rattle.scene_lexer.proofs.read.read_number.Goals as goal

range_alone : (place : Place) (s : List ℕ) (f : LexFault) → Err f ≡ number_of place s → f ≢ NoMemory
unfolding number_of
range_alone place s f is want = by (is_out_of_range s) is
  where
    by : (v : Bool) → (let r : Result Kind LexFault = Err f in r) ≡ (if v then Err (NumberRange place) else Ok (Number (raw_of s))) → ⊥
    by true e = absurd (cc (e, want))
    by false e = absurd (cc e)

pub returns-in-Err-clause-memory : goal.returns-in-Err-clause-memory
returns-in-Err-clause-memory c = range_alone _ _ c.in-Err.fault c.in-Err.ensures

pub slice_bounds-number_of-end : goal.slice_bounds-number_of-end
slice_bounds-number_of-end c =
    sym (length-take-le c.args.bytes c.args.text.now (omega (arith, c.requires.longest, longest-le is_number (length c.args.text.now) c.args.text.now)))

pub returns-in-Ok-clause-found : goal.returns-in-Ok-clause-found
returns-in-Ok-clause-found c =
    number_found c.args.place c.args.text.now c.args.bytes c.in-Ok.kind c.requires.letter c.requires.longest c.requires.some c.in-Ok.ensures

pub returns-in-Err-clause-fault : goal.returns-in-Err-clause-fault
returns-in-Err-clause-fault c =
    number_fault c.args.place c.args.text.now c.args.bytes c.in-Err.fault c.requires.letter c.requires.longest c.requires.some c.in-Err.ensures
