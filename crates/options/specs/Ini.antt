-- INI files. (Reference manual, INI files)
use Rattle.std.specs.Prelude.{ℕ, ◌+◌, ◌-◌, Bool, true, false, not, ◌&&◌, ◌||◌, ◌==◌, nat_lt, nat_le, if◌then◌else◌, List, [], ◌∷◌, length, take, drop, reverse, filter, slice_index, Option, Some, None, Result, Ok, Err}
use Rattle.std.specs.List.{list_all, slice_split, position_or_len}
use Rattle.std.specs.Str.{bytes_eq}
use Rattle.std.specs.Str.Lines.{strip_carriage_return}
use Rattle.options.specs.declared.fault.Where.{Where}
use Rattle.options.specs.declared.fault.Where.TheVariants.{Line}
use Rattle.options.specs.declared.fault.OptionFault.{OptionFault}
use Rattle.options.specs.declared.fault.OptionFault.TheVariants.{UnknownWord, BadLine}
use Rattle.options.specs.declared.table.Reading.{Reading}
use Rattle.options.specs.declared.draft.Draft.{Draft}
use Rattle.options.specs.Outcomes.{◌>>=◌}
use Rattle.options.specs.Table.{name_of}
use Rattle.options.specs.Readings.{taken, switched}

-- a space or a tab
abbrev pub is_blank : ℕ → Bool
is_blank b = b == 32 || b == 9

-- the text without the blanks at its start, at its end, and at both
abbrev pub trim_start : List ℕ → List ℕ
trim_start [] = []
trim_start (b ∷ s) = if is_blank b then trim_start s else b ∷ s

abbrev pub trim_end : List ℕ → List ℕ
trim_end s = reverse (trim_start (reverse s))

abbrev pub trimmed : List ℕ → List ℕ
trimmed s = trim_end (trim_start s)

-- a line without its comment, which begins at a semicolon, and without blanks at its ends
abbrev pub bare : List ℕ → List ℕ
bare line = trimmed (take (position_or_len (λ b. b == 59) line) line)

-- what stands between two marks at the ends
abbrev pub enclosed : ℕ → ℕ → List ℕ → Option (List ℕ)
enclosed first last [] = None
enclosed first last (b ∷ rest) =
    if not (length rest == 0) && (b == first && slice_index rest (length rest - 1) == last)
    then Some (take (length rest - 1) rest)
    else None

abbrev pub or_else : List ℕ → Option (List ℕ) → List ℕ
or_else s None = s
or_else s (Some t) = t

-- a value without the double quotes around it
abbrev pub unquoted : List ℕ → List ℕ
unquoted value = or_else value (enclosed 34 34 value)

abbrev pub is_signed : List ℕ → Bool
is_signed [] = false
is_signed (b ∷ rest) = b == 43 || b == 45

abbrev pub is_fine : List ℕ → Bool
is_fine s = length s == 0 || is_signed s

abbrev pub is_some_text : List ℕ → Bool
is_some_text s = not (length s == 0)

-- what stands between blanks
abbrev pub pieces : List ℕ → List (List ℕ)
pieces line = filter is_some_text (slice_split is_blank line)

abbrev pub piece_read : Where → List ℕ → Draft → Result Draft OptionFault
piece_read place [] draft = Ok draft
piece_read place (sign ∷ letters) draft = switched place (sign == 45) letters draft

-- switches one after another
unfoldable pub pieces_read : Where → List (List ℕ) → Draft → Result Draft OptionFault
pieces_read place [] draft = Ok draft
pieces_read place (piece ∷ more) draft = piece_read place piece draft >>= λ next. pieces_read place more next

abbrev pub read_by : Where → List ℕ → Draft → Option Reading → Result Draft OptionFault
read_by place value draft None = Err (UnknownWord place)
read_by place value draft (Some reading) = taken place reading value draft

-- the value of an INI name
abbrev pub named_read : Where → List ℕ → List ℕ → Draft → Result Draft OptionFault
named_read place name value draft = read_by place value draft (name_of name)

-- a name and its value, with the first equals sign between them
abbrev pub pair_read : Where → List ℕ → Draft → Result Draft OptionFault
pair_read place line draft =
    let at = position_or_len (λ b. b == 61) line in
    if nat_le (length line) at || length (trimmed (take at line)) == 0
    then Err (BadLine place)
    else named_read place (trimmed (take at line)) (unquoted (trimmed (drop (at + 1) line))) draft

-- a line that doesn't name a section: empty, a row of switches, each with its sign, or a name and its value
abbrev pub line_read : Where → List ℕ → Draft → Result Draft OptionFault
line_read place line draft =
    if length line == 0 then Ok draft
    else (if not (is_signed line) then pair_read place line draft
    else (if list_all is_signed (pieces line) then pieces_read place (pieces line) draft else Err (BadLine place)))

-- the first line of a text, whose first line feed stands at this place, or which has none and so many bytes
abbrev pub first_line : List ℕ → ℕ → List ℕ
first_line text end = if nat_lt end (length text) then strip_carriage_return (take end text) else text

-- the section that a line begins, in its brackets
abbrev pub section_in : List ℕ → Option (List ℕ)
section_in line = enclosed 91 93 line

-- whether the lines of a section count: where it is the chosen one
abbrev pub counts_in : Option (List ℕ) → List ℕ → Bool
counts_in None name = false
counts_in (Some chosen) name = bytes_eq name chosen

abbrev pub counts_behind : Option (List ℕ) → Bool → Option (List ℕ) → Bool
counts_behind chosen counts None = counts
counts_behind chosen counts (Some name) = counts_in chosen name

-- a line that counts
abbrev pub line_step : Where → Bool → Option (List ℕ) → List ℕ → Draft → Result Draft OptionFault
line_step place counts (Some name) line draft = Ok draft
line_step place true None line draft = line_read place line draft
line_step place false None line draft = Ok draft

-- the lines from the one of this number on; those before the first section count
unfoldable pub lines_read : Option (List ℕ) → ℕ → Bool → List (List ℕ) → Draft → Result Draft OptionFault
lines_read chosen number counts [] draft = Ok draft
lines_read chosen number counts (line ∷ more) draft =
    line_step (Line number) counts (section_in (bare line)) (bare line) draft
    >>= λ next. lines_read chosen (number + 1) (counts_behind chosen counts (section_in (bare line))) more next

abbrev pub is_named : List ℕ → Option (List ℕ) → Bool
is_named name None = false
is_named name (Some section) = bytes_eq section name

-- some line begins the section of this name
abbrev pub has_section : List ℕ → List (List ℕ) → Bool
has_section name [] = false
has_section name (line ∷ more) = is_named name (section_in (bare line)) || has_section name more
