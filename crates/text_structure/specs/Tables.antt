-- The ends of all lists of a text, ten for each place.
use Rattle.std.specs.Prelude.{ℕ, ◌≡◌, ◌/◌, ◌%◌, ◌<◌, ◌≤◌, nat_eq, nat_lt, Bool, false, ◌||◌, ◌&&◌, List, length, slice_index, if◌then◌else◌}
use Rattle.text_structure.specs.declared.mark.Mark.{Mark}
use Rattle.text_structure.specs.declared.closer.Closer.{Closer}
use Rattle.text_structure.specs.Turns.{sign_at, closing}
use Rattle.text_structure.specs.Ends.{Ends}

-- the closers in the order of a table
abbrev pub number_of : Closer → ℕ
number_of Closer.End = 0
number_of Closer.Branch = 1
number_of Closer.Parenthesis = 2
number_of Closer.Brace = 3
number_of Closer.Semicolon = 4
number_of Closer.Comma = 5
number_of Closer.Round = 6
number_of Closer.Square = 7
number_of Closer.Curly = 8
number_of Closer.Angle = 9

abbrev pub numbered : ℕ → Closer
numbered number =
    if nat_eq number 0 then Closer.End else (
    if nat_eq number 1 then Closer.Branch else (
    if nat_eq number 2 then Closer.Parenthesis else (
    if nat_eq number 3 then Closer.Brace else (
    if nat_eq number 4 then Closer.Semicolon else (
    if nat_eq number 5 then Closer.Comma else (
    if nat_eq number 6 then Closer.Round else (
    if nat_eq number 7 then Closer.Square else (
    if nat_eq number 8 then Closer.Curly else Closer.Angle))))))))

-- a list ends there, within the text
pub record IsEntry (m : List Mark) (closer : Closer) (at end : ℕ) : Type 0 where
  pub ends : Ends m closer at end
  pub behind : at ≤ end
  pub within : end ≤ length m

-- a table that is filled from an entry on
abbrev pub IsTable : List Mark → ℕ → List ℕ → Type 0
IsTable m from table = (k : ℕ) → from ≤ k → k < length table → IsEntry m (numbered (k % 10)) (k / 10) (slice_index table k)

-- whether a list may begin at a sign: at a bracket that opens one, or at the `#` of a directive
abbrev pub may_open : ℕ → Bool
may_open code = nat_eq code 35 || nat_eq code 40 || nat_eq code 91 || nat_eq code 123 || nat_eq code 60

-- a token at which no list begins, with its sign's code, or 0
pub record IsPlain (m : List Mark) (at code : ℕ) : Type 0 where
  pub within : at < length m
  pub sign : code ≡ sign_at m at
  pub opens : may_open code ≡ false

-- whether a sign closes a list
abbrev pub closes : ℕ → Closer → Bool
closes code closer = nat_lt 0 code && nat_eq code (closing closer)
