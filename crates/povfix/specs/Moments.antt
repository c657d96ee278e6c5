-- What a crash may leave of files, at every moment of a run.
use Rattle.std.specs.Prelude.{ℕ, ◌+◌, ◌≡◌, ◌≢◌, List, [], ◌∷◌, take, Option, Some}
use Rattle.shelf.specs.Disk.{Contents, Images}
use Rattle.shelf.specs.Moments.{Throughout}
use Rattle.directive_machine.specs.declared.texts.Text.{Text}
use Rattle.povfix.specs.Frames.{Frame, IsBeside, IsMeaning}

-- ---- one file

-- at every moment nothing new under any name
abbrev pub AllStay : ℕ → ℕ → Images → Images → Type 0
AllStay before now old new = Throughout before now old new (λ name file. old before name file)

-- at every moment nothing new under any other name
abbrev pub OthersStay : List ℕ → ℕ → ℕ → Images → Images → Type 0
OthersStay own before now old new = Throughout before now old new (λ name file. name ≢ own → old before name file)

-- ---- the files of frames

-- where this is the name of one of these frames' picture files, the bytes are those of its meaning
abbrev pub IsWhole : List Frame → List Text → List ℕ → List ℕ → Type 0
IsWhole [] texts name file = Unit {0}
IsWhole (frame ∷ frames) texts name file = (name ≡ frame.output → IsMeaning frame texts file) × IsWhole frames texts name file

-- so many of the frames are stored, and the next one is about to be: the files of those are whole, and under every name but
-- theirs and that of the next one nothing is new
pub record IsStage (frames : List Frame) (told : Option (List Text)) (before : Contents) (stored : ℕ) (name file : List ℕ) : Type 0 where
  pub whole : (texts : List Text) → told ≡ Some texts → IsWhole (take stored frames) texts name file
  pub beside : IsBeside (take (stored + 1) frames) name → before name file
