-- What options set. (Reference manual, command-line options)
use Rattle.std.specs.Prelude.{ℕ, ◌≡◌, ◌≤◌, Bool, true, false, nat_lt, if◌then◌else◌, List, [], ◌∷◌, ◌++◌, length, codes, ℤ, pos, ◌≤ℤ◌, unsigned_abs, Some, None, Result, Ok, Err}
use Rattle.fix_math.specs.Numbers.{IsInRange}
use Rattle.image_out.specs.declared.picture.Sort.TheVariants.{Ppm}
use Rattle.options.specs.declared.fault.Where.{Where}
use Rattle.options.specs.declared.fault.OptionFault.{OptionFault}
use Rattle.options.specs.declared.fault.OptionFault.TheVariants.{Range, TextFault, NoMemory}
use Rattle.options.specs.declared.table.Name.{Name}
use Rattle.options.specs.declared.table.Count.{Count}
use Rattle.options.specs.declared.table.Clock.{Clock}
use Rattle.options.specs.declared.table.Flag.{Flag}
use Rattle.options.specs.declared.table.Fact.{Fact}
use Rattle.options.specs.declared.table.Bits.{Bits}
use Rattle.options.specs.declared.draft.Numbers.{Numbers}
use Rattle.options.specs.declared.draft.Draft.{Draft}
use Rattle.options.specs.declared.draft.Setting.{Setting}
use Rattle.options.specs.Outcomes.{◌>>=◌, Answers}

-- a whole number in the place of the one before it; a first or last frame makes an animation
abbrev pub counted : Numbers → Count → ℕ → Numbers
counted numbers Count.Width n = record numbers { width = n }
counted numbers Count.Height n = record numbers { height = n }
counted numbers Count.Workers n = record numbers { workers = n }
counted numbers Count.First n = record numbers { first = n; animated = true }
counted numbers Count.Last n = record numbers { last = n; animated = true }
counted numbers Count.From n = record numbers { from = Some n }
counted numbers Count.To n = record numbers { to = Some n }
counted numbers Count.Objects n = record numbers { generate = n }
counted numbers Count.Depth n = record numbers { depth = n }

abbrev pub clocked : Numbers → Clock → ℤ → Numbers
clocked numbers Clock.Single z = record numbers { clock = z }
clocked numbers Clock.Initial z = record numbers { initial_clock = z }
clocked numbers Clock.Final z = record numbers { final_clock = z }

abbrev pub flagged : Numbers → Flag → Bool → Numbers
flagged numbers Flag.Continue b = record numbers { resume = b }
flagged numbers Flag.Cyclic b = record numbers { cyclic = b }
flagged numbers Flag.Antialias b = record numbers { smooth = b }

-- a sort of file leaves the bits, and a PPM file may name them
abbrev pub facted : Numbers → Fact → Numbers
facted numbers (Fact.Flag flag b) = flagged numbers flag b
facted numbers (Fact.Sort sort) = record numbers { sort = sort }
facted numbers (Fact.Ppm bits) = record numbers { sort = Ppm; bits = bits }
facted numbers Fact.Nothing = numbers

-- a scene that is read takes the place of a generated one
abbrev pub entered : Numbers → Name → Numbers
entered numbers Name.Input = record numbers { generate = 0 }
entered numbers Name.Output = numbers
entered numbers Name.Library = numbers

-- a setting in the place of the one before it
abbrev pub numbered : Numbers → Setting → Numbers
numbered numbers (Setting.Name name) = entered numbers name
numbered numbers (Setting.Count count n) = counted numbers count n
numbered numbers (Setting.Clock clock z) = clocked numbers clock z
numbered numbers (Setting.Threshold z) = record numbers { threshold = z }
numbered numbers (Setting.Smooth z) = record numbers { smooth = true; threshold = z }
numbered numbers (Setting.Bits bits) = record numbers { bits = bits }
numbered numbers (Setting.Fact fact) = facted numbers fact

-- a name in the place of the one before it, or a further library path, of which there are at most 16
abbrev pub named : Where → Name → List ℕ → Draft → Result Draft OptionFault
named place Name.Input value draft = Ok (record draft { input = value })
named place Name.Output value draft = Ok (record draft { output = value })
named place Name.Library value draft =
    if nat_lt (length draft.libraries) 16
    then Ok (record draft { libraries = draft.libraries ++ value ∷ [] })
    else Err (Range place)

-- a generated scene has a name too
abbrev pub count_named : Where → Count → Draft → Result Draft OptionFault
count_named place Count.Objects draft = named place Name.Input (codes "generated.pov") draft
count_named place other draft = Ok draft

-- the names that a setting sets
abbrev pub names_set : Where → Setting → List ℕ → Draft → Result Draft OptionFault
names_set place (Setting.Name name) value draft = named place name value draft
names_set place (Setting.Count count n) value draft = count_named place count draft
names_set place other value draft = Ok draft

-- a setting with its value in the place of the one before it
abbrev pub applied : Where → Setting → List ℕ → Draft → Result Draft OptionFault
applied place setting value draft =
    names_set place setting value draft >>= λ next. Ok (record next { numbers = numbered next.numbers setting })

-- before any word is read
abbrev pub first_numbers : Numbers
first_numbers = record {
  generate = 0;
  width = 320;
  height = 240;
  sort = Ppm;
  bits = Bits.Eight;
  smooth = false;
  threshold = pos 19661;
  depth = 3;
  resume = false;
  workers = 4;
  animated = false;
  clock = pos 0;
  first = 1;
  last = 1;
  initial_clock = pos 0;
  final_clock = pos 65536;
  cyclic = false;
  from = None;
  to = None;
}

abbrev pub first_draft : Draft
first_draft = record { input = []; output = []; libraries = []; numbers = first_numbers }

-- ---- what stays in its range

-- the greatest value of a whole number
abbrev pub most_of : Count → ℕ
most_of Count.Width = 8192
most_of Count.Height = 8192
most_of Count.Workers = 64
most_of Count.First = 999999
most_of Count.Last = 999999
most_of Count.From = 999999
most_of Count.To = 999999
most_of Count.Objects = 4096
most_of Count.Depth = 9

-- a threshold is from 0 to 3
abbrev pub IsThreshold : ℤ → Type 0
IsThreshold z = (pos 0 ≤ℤ z) × (unsigned_abs z ≤ 196608)

-- a whole number, a threshold and a clock are in their ranges
abbrev pub IsFitting : Setting → Type 0
IsFitting (Setting.Count count n) = (1 ≤ n) × (n ≤ most_of count)
IsFitting (Setting.Clock clock z) = IsInRange z
IsFitting (Setting.Threshold z) = IsThreshold z
IsFitting (Setting.Smooth z) = IsThreshold z
IsFitting other = Unit {0}

-- a setting in its range, or a refusal of the option's own
abbrev pub IsFit : Result Setting OptionFault → Type 0
IsFit (Ok setting) = IsFitting setting
IsFit (Err TextFault) = ⊥
IsFit (Err NoMemory) = ⊥
IsFit (Err fault) = Unit {0}

-- the ranges of what is read so far
pub record IsSound (numbers : Numbers) : Type 0 where
  pub generate : numbers.generate ≤ 4096
  pub width : (1 ≤ numbers.width) × (numbers.width ≤ 8192)
  pub height : (1 ≤ numbers.height) × (numbers.height ≤ 8192)
  pub threshold : IsThreshold numbers.threshold
  pub depth : (1 ≤ numbers.depth) × (numbers.depth ≤ 9)
  pub workers : (1 ≤ numbers.workers) × (numbers.workers ≤ 64)
  pub first : (1 ≤ numbers.first) × (numbers.first ≤ 999999)
  pub last : (1 ≤ numbers.last) × (numbers.last ≤ 999999)
  pub single : numbers.animated ≡ false → (numbers.first ≡ 1) × (numbers.last ≡ 1)
  pub clock : IsInRange numbers.clock
  pub initial_clock : IsInRange numbers.initial_clock
  pub final_clock : IsInRange numbers.final_clock

pub record IsDraft (draft : Draft) : Type 0 where
  pub numbers : IsSound draft.numbers
  pub libraries : length draft.libraries ≤ 16

-- an answer is what was meant, and in its ranges
abbrev pub IsRead : Result Draft OptionFault → Result Draft OptionFault → Type 0
IsRead meant (Ok draft) = (meant ≡ Ok draft) × IsDraft draft
IsRead meant (Err fault) = Answers meant (Err fault)
