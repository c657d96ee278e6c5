-- What a run says of its faults.
use Rattle.std.specs.Prelude.{ℕ, ◌≡◌, ◌⊎◌, ◌==◌, if◌then◌else◌, List, [], ◌∷◌, ◌++◌, codes, slice_get, Option, None, Some, unwrap_or}
use Rattle.std.specs.Fmt.{decimal}
use Rattle.shelf.specs.Causes.{Rose}
use Rattle.shelf.specs.Stream.{with_bytes, GrewByFront}
use Rattle.options.specs.declared.fault.Where.{Where}
use Rattle.options.specs.declared.fault.Where.TheVariants.{Word, Line}
use Rattle.povfix.specs.declared.ending.Report.{Report}
use Rattle.povfix.specs.declared.outcome.Fault.{Fault}
use Rattle.povfix.specs.declared.outcome.Fault.TheVariants.{Done, OptionFault, SceneFault, Limit, Absent, TextFault, ShelfFault, MessageFault, NoMemory}

-- ---- the line of a fault

abbrev pub where_line : Where → List ℕ
where_line (Word number) = codes "word " ++ decimal number
where_line (Line number) = codes "line " ++ decimal number

-- the place in a scene text
abbrev pub place_line : List ℕ → ℕ → List ℕ
place_line name number = codes " at " ++ name ++ codes ":" ++ decimal number

-- the text of an error of the scene's maker stands behind the place
abbrev pub text_line : ℕ → List ℕ → List ℕ
text_line letter text = if letter == 85 then 32 ∷ text else []

abbrev pub option_line : ℕ → Where → List ℕ
option_line kind place = codes "option fault " ++ decimal kind ++ codes " at " ++ where_line place ++ codes "\n"

abbrev pub scene_line : List ℕ → List ℕ → ℕ → ℕ → ℕ → List ℕ
scene_line name text letter kind number = codes "scene fault " ++ letter ∷ [] ++ decimal kind ++ place_line name number ++ text_line letter text ++ codes "\n"

abbrev pub limit_line : List ℕ → ℕ → ℕ → List ℕ
limit_line name which number = codes "limit " ++ decimal which ++ place_line name number ++ codes "\n"

abbrev pub absent_line : List ℕ → List ℕ
absent_line name = codes "absent " ++ name ++ codes "\n"

-- one line for each fault, ended by a line feed, with the name of the text in which it stands and the text of an error;
-- nothing where all is done, and where messages can't be written
abbrev pub line_of : List ℕ → List ℕ → Fault → List ℕ
line_of name text Done = []
line_of name text (OptionFault kind place) = option_line kind place
line_of name text (SceneFault letter kind place) = scene_line name text letter kind place.line
line_of name text (Limit which place) = limit_line name which place.line
line_of name text (Absent absent) = absent_line absent
line_of name text TextFault = codes "text fault\n"
line_of name text ShelfFault = codes "shelf fault\n"
line_of name text MessageFault = []
line_of name text NoMemory = codes "no memory\n"

-- the number of the text in which a fault stands
abbrev pub text_number : Fault → ℕ
text_number (SceneFault letter kind place) = place.file
text_number (Limit which place) = place.file
text_number fault = 0

-- the name of a text by its number
abbrev pub name_under : List (List ℕ) → ℕ → List ℕ
name_under names number = unwrap_or (slice_get names number) []

-- ---- the summary of a generated scene

abbrev pub balls_line : ℕ → List ℕ
balls_line balls = codes "generated " ++ decimal balls ++ codes " objects, "

abbrev pub sides_line : ℕ → ℕ → List ℕ
sides_line width height = decimal width ++ codes "x" ++ decimal height

-- how many balls the scene has, the sides of a picture, and the sum of the bytes of all pictures
abbrev pub summary_line : ℕ → ℕ → ℕ → ℕ → List ℕ
summary_line balls width height total = balls_line balls ++ sides_line width height ++ codes ", sum " ++ decimal total ++ codes "\n"

-- a scene that is read has none
abbrev pub summary_of : ℕ → ℕ → ℕ → ℕ → List ℕ
summary_of balls width height total = if balls == 0 then [] else summary_line balls width height total

-- ---- what is still to be said of a fault

abbrev pub messages_left : Option Report → List ℕ
messages_left None = []
messages_left (Some report) = report.messages.items

abbrev pub line_left : Option Report → Fault → List ℕ
line_left None fault = line_of [] [] fault
line_left (Some report) fault = line_of report.name report.text fault

-- ---- what a sink has then

-- a sink took all of these bytes, or a part of them where its count of faults rose
abbrev pub Says : Option (List ℕ) → Option (List ℕ) → ℕ → ℕ → List ℕ → Type 0
Says before now faults_before faults_now bytes = (now ≡ with_bytes before bytes) ⊎ (Rose faults_before faults_now × GrewByFront before now bytes)

-- a fault whose line names a word, a place or a text
abbrev pub IsPlaced : Fault → Type 0
IsPlaced (OptionFault kind place) = Unit {0}
IsPlaced (SceneFault letter kind place) = Unit {0}
IsPlaced (Limit which place) = Unit {0}
IsPlaced (Absent name) = Unit {0}
IsPlaced _ = ⊥

-- a fault was reported by its line, or there was no memory for the line, and that was reported
abbrev pub IsReported : Option (List ℕ) → Option (List ℕ) → ℕ → ℕ → List ℕ → Fault → Fault → Type 0
IsReported before now faults_before faults_now line fault reported =
    ((reported ≡ fault) × Says before now faults_before faults_now line)
    ⊎ ((reported ≡ NoMemory) × Says before now faults_before faults_now (codes "no memory\n"))
