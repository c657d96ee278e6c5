-- The plan of the words, or the first refusal. (Reference manual, command-line options and INI files)
use Rattle.std.specs.Prelude.{ℕ, ◌≡◌, ◌+◌, ◌-◌, ◌*◌, ◌≤◌, ◌<◌, Bool, true, false, not, ◌&&◌, ◌||◌, ◌==◌, nat_le, nat_lt, nat_eq, if◌then◌else◌, List, [], ◌∷◌, length, take, drop, codes, Option, Some, None, IfSome, unwrap_or, Result, Ok, Err}
use Rattle.std.specs.List.{ends_with}
use Rattle.std.specs.Str.Lines.{lines}
use Rattle.fix_math.specs.Numbers.{IsInRange}
use Rattle.image_out.specs.declared.picture.Sort.{Sort}
use Rattle.image_out.specs.declared.picture.Sort.TheVariants.{Ppm, Targa, TargaRle}
use Rattle.directive_machine.specs.declared.texts.Text.{Text}
use Rattle.directive_machine.specs.Texts.{text_of}
use Rattle.options.specs.declared.fault.Where.TheVariants.{Word, Line}
use Rattle.options.specs.declared.fault.OptionFault.{OptionFault}
use Rattle.options.specs.declared.fault.OptionFault.TheVariants.{UnknownWord, Missing, Range, AbsentIni, BadLine}
use Rattle.options.specs.declared.plan.Antialias.{Antialias}
use Rattle.options.specs.declared.plan.Plan.{Plan}
use Rattle.options.specs.declared.table.Name.{Name}
use Rattle.options.specs.declared.table.Bits.{Bits}
use Rattle.options.specs.declared.table.Reading.{Reading}
use Rattle.options.specs.declared.draft.Numbers.{Numbers}
use Rattle.options.specs.declared.draft.Draft.{Draft}
use Rattle.options.specs.Outcomes.{◌>>=◌}
use Rattle.options.specs.Readings.{taken, switched}
use Rattle.options.specs.Drafts.{first_draft, IsThreshold}
use Rattle.options.specs.Ini.{enclosed, is_signed, has_section, lines_read}
use Rattle.options.specs.Names.{front_length, image_name}

-- how many bytes of a word name an INI file: all where it ends in .ini, and those before the last bracket where the
-- section stands behind it; none where the word is another
abbrev pub ini_length : List ℕ → Option ℕ
ini_length word =
    if is_signed word || ends_with nat_eq word (codes ".pov") then None
    else (if ends_with nat_eq word (codes ".ini") then Some (length word)
    else (if ends_with nat_eq word (codes "]") && ends_with nat_eq (take (front_length 91 word - 1) word) (codes ".ini")
    then Some (front_length 91 word - 1)
    else None))

-- a section is asked for and isn't there
abbrev pub lacks : Option (List ℕ) → List (List ℕ) → Bool
lacks None lines = false
lacks (Some name) lines = not (has_section name lines)

-- an INI file: there, not too long, and with its section
abbrev pub text_read : ℕ → Option (List ℕ) → Draft → Option (List ℕ) → Result Draft OptionFault
text_read number chosen draft None = Err (AbsentIni (Word number))
text_read number chosen draft (Some text) =
    if nat_lt 16777216 (length text) then Err (BadLine (Line 1))
    else (if lacks chosen (lines text) then Err (AbsentIni (Word number)) else lines_read chosen 1 true (lines text) draft)

-- a word that names no INI file: a switch, or a scene
abbrev pub plain_read : ℕ → List ℕ → Draft → Result Draft OptionFault
plain_read number [] draft = Err (UnknownWord (Word number))
plain_read number (b ∷ rest) draft =
    if b == 43 || b == 45 then switched (Word number) (b == 45) rest draft
    else (if ends_with nat_eq (b ∷ rest) (codes ".pov")
    then taken (Word number) (Reading.Name Name.Input) (b ∷ rest) draft
    else Err (UnknownWord (Word number)))

abbrev pub word_by : List Text → ℕ → List ℕ → Draft → Option ℕ → Result Draft OptionFault
word_by texts number word draft None = plain_read number word draft
word_by texts number word draft (Some n) = text_read number (enclosed 91 93 (drop n word)) draft (text_of texts (take n word))

-- the word of this number
abbrev pub word_read : List Text → ℕ → List ℕ → Draft → Result Draft OptionFault
word_read texts number word draft = word_by texts number word draft (ini_length word)

-- the words one after another, from the one of this number on
unfoldable pub words_read : List Text → ℕ → List (List ℕ) → Draft → Result Draft OptionFault
words_read texts number [] draft = Ok draft
words_read texts number (word ∷ words) draft =
    word_read texts number word draft >>= λ next. words_read texts (number + 1) words next

-- ---- what is left to see once all words are read

abbrev pub from_of : Numbers → ℕ
from_of numbers = unwrap_or numbers.from numbers.first

abbrev pub to_of : Numbers → ℕ
to_of numbers = unwrap_or numbers.to numbers.last

-- the frames are in order, the subset is within them, at most 10,000 frames are rendered, and a picture has at most 2^24 pixels
abbrev pub is_in_range : Numbers → Bool
is_in_range numbers =
    nat_le numbers.first numbers.last && (nat_le numbers.first (from_of numbers) && (nat_le (to_of numbers) numbers.last
    && (nat_le (from_of numbers) (to_of numbers) && (nat_lt (to_of numbers - from_of numbers) 10000
    && nat_le (numbers.width * numbers.height) 16777216))))

-- a Targa has 8 bits, whatever was asked
abbrev pub bits_of : Sort → Bits → ℕ
bits_of Ppm Bits.Eight = 8
bits_of Ppm Bits.Sixteen = 16
bits_of Targa bits = 8
bits_of TargaRle bits = 8

abbrev pub antialias_of : Numbers → Option Antialias
antialias_of numbers = if numbers.smooth then Some (record { threshold = numbers.threshold; depth = numbers.depth }) else None

abbrev pub plan_by : Draft → Plan
plan_by draft = record {
  input = draft.input;
  generate = draft.numbers.generate;
  output = image_name draft.numbers.sort draft.input draft.output;
  width = draft.numbers.width;
  height = draft.numbers.height;
  sort = draft.numbers.sort;
  bits = bits_of draft.numbers.sort draft.numbers.bits;
  antialias = antialias_of draft.numbers;
  resume = draft.numbers.resume;
  workers = draft.numbers.workers;
  libraries = draft.libraries;
  animated = draft.numbers.animated;
  clock = draft.numbers.clock;
  first = draft.numbers.first;
  last = draft.numbers.last;
  initial_clock = draft.numbers.initial_clock;
  final_clock = draft.numbers.final_clock;
  cyclic = draft.numbers.cyclic;
  from = from_of draft.numbers;
  to = to_of draft.numbers;
}

abbrev pub completed : Draft → Result Plan OptionFault
completed draft =
    if length draft.input == 0 then Err (Missing (Word 0))
    else (if is_in_range draft.numbers then Ok (plan_by draft) else Err (Range (Word 0)))

-- the plan of the words over these texts, or the first refusal
unfoldable pub plan_of : List Text → List (List ℕ) → Result Plan OptionFault
plan_of texts words =
    if nat_lt 65536 (length words) then Err (Range (Word 0))
    else (words_read texts 1 words first_draft >>= completed)

-- 8 bits, or 16 for a PPM file
abbrev pub bits_fit : Sort → ℕ → Bool
bits_fit Ppm bits = bits == 8 || bits == 16
bits_fit Targa bits = bits == 8
bits_fit TargaRle bits = bits == 8

-- a threshold from 0 to 3, and from 1 to 9 sub-pixels a side
abbrev pub IsAntialias : Antialias → Type 0
IsAntialias antialias = IsThreshold antialias.threshold × (1 ≤ antialias.depth) × (antialias.depth ≤ 9)

-- the ranges of a plan
pub record IsPlan (plan : Plan) : Type 0 where
  pub input : 1 ≤ length plan.input
  pub generate : plan.generate ≤ 4096
  pub width : (1 ≤ plan.width) × (plan.width ≤ 8192)
  pub height : (1 ≤ plan.height) × (plan.height ≤ 8192)
  pub pixels : plan.width * plan.height ≤ 16777216
  pub bits : bits_fit plan.sort plan.bits ≡ true
  pub antialias : IfSome plan.antialias IsAntialias
  pub workers : (1 ≤ plan.workers) × (plan.workers ≤ 64)
  pub libraries : length plan.libraries ≤ 16
  pub clock : IsInRange plan.clock
  pub initial_clock : IsInRange plan.initial_clock
  pub final_clock : IsInRange plan.final_clock
  pub single : plan.animated ≡ false → (plan.first ≡ 1) × (plan.last ≡ 1)
  pub first : 1 ≤ plan.first
  pub from : plan.first ≤ plan.from
  pub row : plan.from ≤ plan.to
  pub to : plan.to ≤ plan.last
  pub last : plan.last ≤ 999999
  pub count : plan.to - plan.from < 10000
