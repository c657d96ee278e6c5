-- What a state file was found to be.
use Rattle.std.specs.Prelude.{ℕ, ◌<◌, ◌≡◌, Bool, true, List, length, slice_index}
use Rattle.state_file.specs.declared.found.Found.{Found}
use Rattle.state_file.specs.declared.found.Found.TheVariants.{New, Other, Same}
use Rattle.state_file.specs.Layout.{Layout, IsOpenFile, IsThisFrame}
use Rattle.state_file.specs.Opening.{IsOther}

-- the file has this length and begins with these bytes
pub record IsFront (front : List ℕ) (size : ℕ) (c : List ℕ) : Type 0 where
  pub long : length c ≡ size
  pub bytes : (k : ℕ) → k < length front → slice_index front k ≡ slice_index c k

-- it is made anew where it counts as absent, or where nothing is continued
pub record IsNew (resume : Bool) (c : List ℕ) (size gate : ℕ) : Type 0 where
  pub long : length c ≡ size
  pub first : 0 < size → slice_index c 0 ≡ gate
  pub absent : resume ≡ true → ¬ (IsOpenFile c)

-- what it was found to be is so
abbrev pub IsFound : Layout → Bool → List ℕ → Found → Type 0
IsFound l resume c (New size gate) = IsNew resume c size gate
IsFound l resume c (Other place kept) = (resume ≡ true) × IsOther l c place kept
IsFound l resume c Same = (resume ≡ true) × IsThisFrame l c

-- it is made anew
abbrev pub IsAnew : Found → Type 0
IsAnew (New size gate) = Unit {0}
IsAnew (Other place kept) = ⊥
IsAnew Same = ⊥
