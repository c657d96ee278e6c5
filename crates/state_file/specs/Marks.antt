-- What a pen has noted of each block, and the files that agree with it.
use Rattle.std.specs.Prelude.{ℕ, ◌+◌, ◌<◌, ◌≡◌, ◌≢◌, List, Bool, if◌then◌else◌, Option, Some, None, slice_index, slice_index_or}
use Rattle.state_file.specs.declared.mark.Mark.{Mark}
use Rattle.state_file.specs.declared.mark.Mark.TheVariants.{Shut, Open}
use Rattle.state_file.specs.Layout.{Layout, IsThisFrame, HasPixels}

-- the mark of a block
abbrev pub mark_at : List Mark → ℕ → Mark
mark_at marks b = slice_index_or marks b Shut

-- the block's pixels are safe, and its gate may be open
abbrev pub IsShown : Mark → Type 0
IsShown m = m ≢ Shut

-- the pixels are those of the picture, where one is named
abbrev pub Shows : Layout → Option (List ℕ) → ℕ → List ℕ → Type 0
Shows l truth b c = (picture : List ℕ) → truth ≡ Some picture → HasPixels l picture b c

-- the file is this frame's and agrees with the marks: a shut block's gate is closed, a ready block has the
-- picture's pixels, and an open one has them and an open gate
pub record Fits (l : Layout) (truth : Option (List ℕ)) (marks : List Mark) (c : List ℕ) : Type 0 where
  pub file : IsThisFrame l c
  pub shut : (b : ℕ) → b < l.count → mark_at marks b ≡ Shut → slice_index c (l.gates + b) ≡ 0
  pub shown : (b : ℕ) → b < l.count → IsShown (mark_at marks b) → Shows l truth b c
  pub opened : (b : ℕ) → b < l.count → mark_at marks b ≡ Open → slice_index c (l.gates + b) ≢ 0

-- marks only rise: a block that is shown stays so, and an open one stays open
pub record Rises (before now : List Mark) : Type 0 where
  pub shown : (b : ℕ) → IsShown (mark_at before b) → IsShown (mark_at now b)
  pub opened : (b : ℕ) → mark_at before b ≡ Open → mark_at now b ≡ Open

-- the picture that a pen has is that of its file as long as no commit has failed
abbrev pub believed : Bool → List ℕ → Option (List ℕ)
believed failed picture = if failed then None else Some picture
