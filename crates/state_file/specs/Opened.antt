-- Pens just opened.
use Rattle.std.specs.Prelude.{ℕ, ◌<◌, ◌≡◌, ◌↔◌, Bool, true, List}
use Rattle.shelf.specs.declared.disk.Shelf.{Ghosts}
use Rattle.state_file.specs.declared.fault.OpenFault.{OpenFault}
use Rattle.state_file.specs.declared.fault.OpenFault.TheVariants.{OtherState, ShelfFault, NoMemory}
use Rattle.state_file.specs.declared.pen.Pen.{Pen}
use Rattle.state_file.specs.Layout.{Layout, IsOpenBlock, IsOwn}
use Rattle.state_file.specs.Opening.{IsOther, Read}
use Rattle.state_file.specs.Pens.{knows_open, layout_in}

-- The pen knows exactly the blocks that were open in the file as it was read, where it is continued, and none else.
-- A file that is continued wasn't another frame's.
pub record IsReadAs {S : Type 0} {g : Ghosts S} (resume : Bool) (pen : Pen S g) (c : List ℕ) : Type 0 where
  pub known : (b : ℕ) → b < (layout_in pen).count → knows_open pen b ↔ ((resume ≡ true) × IsOpenBlock (layout_in pen) b c)
  pub own : resume ≡ true → IsOwn (layout_in pen) c

-- where it is refused as another frame's, it is continued and was so as it was read
abbrev pub IsRefused : Layout → Bool → (List ℕ → Type 0) → OpenFault → Type 0
IsRefused l resume holds (OtherState place kept) = (resume ≡ true) × Read holds (λ c. IsOther l c place kept)
IsRefused l resume holds ShelfFault = Unit {0}
IsRefused l resume holds NoMemory = Unit {0}

-- it is refused as another frame's
abbrev pub IsForeignFault : OpenFault → Type 0
IsForeignFault (OtherState place kept) = Unit {0}
IsForeignFault ShelfFault = ⊥
IsForeignFault NoMemory = ⊥
