-- Pens in order: what has held at every moment since a start.
use Rattle.std.specs.Prelude.{ℕ, ◌<◌, ◌≤◌, ◌≡◌, ◌≢◌, List, Option, IsSome}
use Rattle.shelf.specs.Disk.{Held, Images, most_at}
use Rattle.shelf.specs.Moments.{Throughout, Under}
use Rattle.state_file.specs.declared.mark.Mark.{Mark}
use Rattle.state_file.specs.declared.mark.Mark.TheVariants.{Open}
use Rattle.state_file.specs.Layout.{Layout, IsThisFrame, IsOpenBlock}
use Rattle.state_file.specs.Marks.{Fits, Shows, IsShown, mark_at, Rises}

-- at any moment: the file is this frame's, each open block shows the picture and is one that is shown now, and
-- each block that was open at first is open
pub record IsSafe (l : Layout) (truth : Option (List ℕ)) (first marks : List Mark) (c : List ℕ) : Type 0 where
  pub file : IsThisFrame l c
  pub honest : (b : ℕ) → b < l.count → IsOpenBlock l b c → Shows l truth b c
  pub noted : (b : ℕ) → b < l.count → IsOpenBlock l b c → IsShown (mark_at marks b)
  pub kept : (b : ℕ) → b < l.count → mark_at first b ≡ Open → IsOpenBlock l b c

-- since the start each moment was safe, and now each image agrees with the marks
pub record Steady {S : Type 0} (moment : S → ℕ) (images : S → Images) (name : List ℕ) (l : Layout)
    (truth : Option (List ℕ)) (first : List Mark) (start : S) (marks : List Mark) (now : S) : Type 0 where
  pub moments : Throughout (moment start) (moment now) (images start) (images now)
      (Under name (IsSafe l truth first marks) (images start (moment start)))
  pub risen : Rises first marks
  pub fits : (c : List ℕ) → images now (moment now) name c → Fits l truth marks c
  pub others : (n c : List ℕ) → n ≢ name → images now (moment now) n c → images start (moment start) n c

-- whatever was in order before, for any start and for any picture with this property, is in order after
abbrev pub KeepsOrder : {S : Type 0} → (S → ℕ) → (S → Images) → List ℕ → Layout → (Option (List ℕ) → Type 0)
    → List Mark → List Mark → S → S → Type 0
KeepsOrder {S} moment images name l IsTrueFor before after old new =
    (truth : Option (List ℕ)) (first : List Mark) (start : S) → IsTrueFor truth
    → Steady moment images name l truth first start before old → Steady moment images name l truth first start after new

-- the slot holds a file that has room for the whole state
pub record HasRoom (l : Layout) (slot : Option Held) : Type 0 where
  pub held : IsSome slot
  pub room : l.all ≤ most_at slot
