-- What the value of an option says. (Reference manual, command-line options and INI files)
use Rattle.std.specs.Prelude.{ℕ, Bool, true, false, ◌&&◌, ◌==◌, nat_le, if◌then◌else◌, List, [], ◌∷◌, length, drop, ℤ, unsigned_abs, Option, Some, None, Result, Ok, Err}
use Rattle.image_out.specs.declared.picture.Sort.TheVariants.{Ppm, Targa, TargaRle}
use Rattle.scene_lexer.specs.Alone.{number_in}
use Rattle.options.specs.declared.fault.Where.{Where}
use Rattle.options.specs.declared.fault.OptionFault.{OptionFault}
use Rattle.options.specs.declared.fault.OptionFault.TheVariants.{UnknownWord, BadNumber, Missing, Range, OutOfProfile}
use Rattle.options.specs.declared.table.Name.{Name}
use Rattle.options.specs.declared.table.Count.{Count}
use Rattle.options.specs.declared.table.Clock.{Clock}
use Rattle.options.specs.declared.table.Flag.{Flag}
use Rattle.options.specs.declared.table.Fact.{Fact}
use Rattle.options.specs.declared.table.Bits.{Bits}
use Rattle.options.specs.declared.table.Reading.{Reading}
use Rattle.options.specs.declared.table.Switch.{Switch}
use Rattle.options.specs.declared.draft.Draft.{Draft}
use Rattle.options.specs.declared.draft.Setting.{Setting}
use Rattle.options.specs.Outcomes.{◌>>=◌}
use Rattle.options.specs.Values.{is_whole, whole_of, signed_in, truth_of}
use Rattle.options.specs.Table.{switch_of}
use Rattle.options.specs.Drafts.{most_of, applied}

-- a whole number from 1 to its greatest
abbrev pub whole_in : Where → Count → List ℕ → Result Setting OptionFault
whole_in place count value =
    if is_whole value
    then (if nat_le 1 (whole_of value) && nat_le (whole_of value) (most_of count)
    then Ok (Setting.Count count (whole_of value))
    else Err (Range place))
    else Err (BadNumber place)

abbrev pub clock_in : Where → Clock → Option ℤ → Result Setting OptionFault
clock_in place clock None = Err (BadNumber place)
clock_in place clock (Some z) = Ok (Setting.Clock clock z)

-- a threshold is at most 3
abbrev pub threshold_in : Where → Option ℤ → Result Setting OptionFault
threshold_in place None = Err (BadNumber place)
threshold_in place (Some z) = if nat_le (unsigned_abs z) 196608 then Ok (Setting.Threshold z) else Err (Range place)

abbrev pub smooth_in : Where → Option ℤ → Result Setting OptionFault
smooth_in place None = Err (BadNumber place)
smooth_in place (Some z) = if nat_le (unsigned_abs z) 196608 then Ok (Setting.Smooth z) else Err (Range place)

abbrev pub truth_in_place : Where → Flag → Option Bool → Result Setting OptionFault
truth_in_place place flag None = Err (BadNumber place)
truth_in_place place flag (Some b) = Ok (Setting.Fact (Fact.Flag flag b))

-- one digit and nothing else
abbrev pub digit_in : Where → ℕ → List ℕ → Result Setting OptionFault
digit_in place digit [] = Err (OutOfProfile place)
digit_in place digit (b ∷ []) = if b == digit then Ok (Setting.Fact Fact.Nothing) else Err (OutOfProfile place)
digit_in place digit (b ∷ c ∷ rest) = Err (OutOfProfile place)

-- P, T or C
abbrev pub letter_in : Where → List ℕ → Result Setting OptionFault
letter_in place [] = Err (OutOfProfile place)
letter_in place (b ∷ []) =
    if b == 80 then Ok (Setting.Fact (Fact.Sort Ppm))
    else (if b == 84 then Ok (Setting.Fact (Fact.Sort Targa))
    else (if b == 67 then Ok (Setting.Fact (Fact.Sort TargaRle)) else Err (OutOfProfile place)))
letter_in place (b ∷ c ∷ rest) = Err (OutOfProfile place)

-- 8 or 16
abbrev pub depth_in : Where → List ℕ → Result Setting OptionFault
depth_in place [] = Err (OutOfProfile place)
depth_in place (b ∷ []) = if b == 56 then Ok (Setting.Bits Bits.Eight) else Err (OutOfProfile place)
depth_in place (b ∷ c ∷ []) = if b == 49 && c == 54 then Ok (Setting.Bits Bits.Sixteen) else Err (OutOfProfile place)
depth_in place (b ∷ c ∷ d ∷ rest) = Err (OutOfProfile place)

abbrev pub on_in : Where → Option Bool → Result Setting OptionFault
on_in place (Some true) = Ok (Setting.Fact Fact.Nothing)
on_in place (Some false) = Err (OutOfProfile place)
on_in place None = Err (OutOfProfile place)

abbrev pub alone_in : Where → Fact → List ℕ → Result Setting OptionFault
alone_in place fact value = if length value == 0 then Ok (Setting.Fact fact) else Err (UnknownWord place)

abbrev pub name_in_place : Where → Name → List ℕ → Result Setting OptionFault
name_in_place place name value = if length value == 0 then Err (Missing place) else Ok (Setting.Name name)

-- what an option's value says
abbrev pub setting_of : Where → Reading → List ℕ → Result Setting OptionFault
setting_of place (Reading.Name name) value = name_in_place place name value
setting_of place (Reading.Count count) value = whole_in place count value
setting_of place (Reading.Clock clock) value = clock_in place clock (signed_in value)
setting_of place Reading.Threshold value = threshold_in place (number_in value)
setting_of place Reading.Smooth value =
    if length value == 0 then Ok (Setting.Fact (Fact.Flag Flag.Antialias true)) else smooth_in place (number_in value)
setting_of place (Reading.Truth flag) value = truth_in_place place flag (truth_of value)
setting_of place (Reading.Alone fact) value = alone_in place fact value
setting_of place (Reading.Only digit) value = digit_in place digit value
setting_of place Reading.Letter value = letter_in place value
setting_of place Reading.Depth value = depth_in place value
setting_of place Reading.On value = on_in place (truth_of value)
setting_of place Reading.Ignored value = Ok (Setting.Fact Fact.Nothing)
setting_of place Reading.Foreign value = Err (OutOfProfile place)

-- an option with its value
unfoldable pub taken : Where → Reading → List ℕ → Draft → Result Draft OptionFault
taken place reading value draft = setting_of place reading value >>= λ setting. applied place setting value draft

abbrev pub matched : Where → List ℕ → Draft → Option Switch → Result Draft OptionFault
matched place letters draft None = Err (UnknownWord place)
matched place letters draft (Some found) = taken place found.reading (drop found.length letters) draft

-- a switch behind its sign: the longest that begins the word counts, and the rest is its value
abbrev pub switched : Where → Bool → List ℕ → Draft → Result Draft OptionFault
switched place is_minus letters draft = matched place letters draft (switch_of is_minus letters)
