-- Pens in order.
use Rattle.std.specs.Prelude.{ℕ, ◌<◌, ◌≤◌, ◌≡◌, List, true, false, Some, None, length, slice_index}
use Rattle.shelf.specs.declared.disk.Shelf.{Ghosts}
use Rattle.shelf.specs.Causes.{Rose}
use Rattle.shelf.specs.Disk.{name_at}
use Rattle.shelf.specs.Moments.{Throughout, Under}
use Rattle.state_file.specs.declared.block.DoneBlock.{DoneBlock}
use Rattle.state_file.specs.declared.mark.Mark.TheVariants.{Ready, Open}
use Rattle.state_file.specs.declared.pen.Pen.{Pen}
use Rattle.state_file.specs.Blocks.{AreTrue}
use Rattle.state_file.specs.Frames.{layout}
use Rattle.state_file.specs.Layout.{Layout}
use Rattle.state_file.specs.Marks.{mark_at}
use Rattle.state_file.specs.Order.{IsSafe, Steady}

-- the pen knows that the block is open
abbrev pub knows_open : {S : Type 0} {g : Ghosts S} → Pen S g → ℕ → Type 0
knows_open pen b = mark_at pen.marks.items b ≡ Open

-- a commit that failed has named the block, and it may be open or not
abbrev pub is_tried : {S : Type 0} {g : Ghosts S} → Pen S g → ℕ → Type 0
is_tried pen b = mark_at pen.marks.items b ≡ Ready

-- the layout of the pen's file
abbrev pub layout_in : {S : Type 0} {g : Ghosts S} → Pen S g → Layout
layout_in pen = layout pen.frame

-- the file's name
abbrev pub name_in : {S : Type 0} {g : Ghosts S} → Pen S g → List ℕ
name_in {S} {g} pen = name_at (g.slots pen.shelf pen.slot)

-- what a crash now may leave of the file
abbrev pub images_in : {S : Type 0} {g : Ghosts S} → Pen S g → List ℕ → Type 0
images_in {S} {g} pen c = g.images pen.shelf (g.moment pen.shelf) (name_in pen) c

-- the picture shows these bytes in each block that is known to be open
abbrev pub ShowsKnown : {S : Type 0} {g : Ghosts S} → List ℕ → Pen S g → Type 0
ShowsKnown truth pen = (b k : ℕ) → b < (layout_in pen).count → knows_open pen b → k < (layout_in pen).size b
    → slice_index pen.picture.items ((layout_in pen).spot b k) ≡ slice_index truth ((layout_in pen).spot b k)

-- Since the start: at every moment each image was honest for this picture, this frame's and with each block open
-- that was known open then, and other names were as they were. Now each image agrees with the pen's marks, its
-- picture shows the blocks that it knows, and the faults of the storage rose where a commit has failed.
pub record IsInOrder {S : Type 0} {g : Ghosts S} (truth : List ℕ) (start pen : Pen S g) : Type 0 where
  pub frame : pen.frame ≡ start.frame
  pub slot : pen.slot ≡ start.slot
  pub name : name_in pen ≡ name_in start
  pub steady : Steady g.moment g.images (name_in start) (layout_in start) (Some truth) start.marks.items start.shelf
      pen.marks.items pen.shelf
  pub shows : ShowsKnown truth pen
  pub later : g.faults start.shelf ≤ g.faults pen.shelf
  pub rose : pen.failed ≡ true → Rose (g.faults start.shelf) (g.faults pen.shelf)

-- with true blocks, a pen that was in order is in order
abbrev pub StaysInOrder : {S : Type 0} {g : Ghosts S} → List DoneBlock → Pen S g → Pen S g → Type 0
StaysInOrder {S} {g} given old new = (truth : List ℕ) (start : Pen S g) → AreTrue (layout_in old) given (Some truth)
    → IsInOrder truth start old → IsInOrder truth start new

-- At every moment of a commit the file is this frame's, a block that was known open is open, a block that is open is
-- known or tried at the end, and other names are as they were.
abbrev pub StaysSafe : {S : Type 0} {g : Ghosts S} → Pen S g → Pen S g → Type 0
StaysSafe {S} {g} old new = Throughout (g.moment old.shelf) (g.moment new.shelf) (g.images old.shelf) (g.images new.shelf)
    (Under (name_in old) (IsSafe (layout_in old) None old.marks.items new.marks.items)
    (g.images old.shelf (g.moment old.shelf)))

-- a pen that hasn't failed and whose picture shows the true bytes of what it knows is in order from now on
abbrev pub BeginsInOrder : {S : Type 0} {g : Ghosts S} → Pen S g → Type 0
BeginsInOrder pen = (truth : List ℕ) → pen.failed ≡ false → ShowsKnown truth pen → IsInOrder truth pen pen

-- the blocks that aren't known to be open, ascending
pub record IsTodo {S : Type 0} {g : Ghosts S} (pen : Pen S g) (list : List ℕ) : Type 0 where
  pub left : (i : ℕ) → i < length list → (slice_index list i < (layout_in pen).count) × ¬ (knows_open pen (slice_index list i))
  pub all : (b : ℕ) → b < (layout_in pen).count → ¬ (knows_open pen b) → (i : ℕ) × (i < length list) × (slice_index list i ≡ b)
  pub ascending : (i j : ℕ) → i < j → j < length list → slice_index list i < slice_index list j
