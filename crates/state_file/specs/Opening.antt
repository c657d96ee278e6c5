-- Making a state file anew, and continuing one.
use Rattle.std.specs.Prelude.{ℕ, ◌+◌, ◌-◌, ◌<◌, ◌≡◌, ◌≢◌, ◌⊎◌, List, length, slice_index, Option, Some, None}
use Rattle.shelf.specs.Disk.{Images, SameOthers}
use Rattle.shelf.specs.Moments.{Throughout, Under}
use Rattle.state_file.specs.Layout.{Layout, IsOpenFile, IsThisFrame}

-- a file of this frame in which no block is open
pub record IsFresh (l : Layout) (c : List ℕ) : Type 0 where
  pub file : IsThisFrame l c
  pub shut : (b : ℕ) → b < l.count → slice_index c (l.gates + b) ≡ 0

-- the file counts as absent, or no block of it is open
abbrev pub IsBlank : Layout → List ℕ → Type 0
IsBlank l c = IsOpenFile c → IsFresh l c

-- the file's gate alone may be another byte, and it was open
pub record OnlyGate (old new : List ℕ) : Type 0 where
  pub gate : slice_index old 0 ≢ 0
  pub long : length new ≡ length old
  pub rest : (k : ℕ) → 0 < k → k < length old → slice_index new k ≡ slice_index old k

-- what a crash may leave while a file is made anew: what was there, what was there with another gate, or a blank file
abbrev pub IsMade : Layout → (List ℕ → Type 0) → List ℕ → Type 0
IsMade l before c = before c ⊎ (IsBlank l c ⊎ ((d : List ℕ) × before d × OnlyGate d c))

-- closed, and all but the gate as in a fresh file
pub record IsBody (l : Layout) (c : List ℕ) : Type 0 where
  pub long : length c ≡ l.all
  pub gate : slice_index c 0 ≡ 0
  pub head : (k : ℕ) → k < length l.head → slice_index c (1 + k) ≡ slice_index l.head k
  pub shut : (b : ℕ) → b < l.count → slice_index c (l.gates + b) ≡ 0

-- at every moment of a run of calls what a crash may leave under the name has this property, and other names are as
-- they were
pub record Ran {S : Type 0} (moment : S → ℕ) (images : S → Images) (name : List ℕ) (P : List ℕ → Type 0) (old new : S) : Type 0 where
  pub moments : Throughout (moment old) (moment new) (images old) (images new) (Under name P (images old (moment old)))
  pub elsewhere : SameOthers name (images old (moment old)) (images new (moment new))

-- An open file isn't this frame's: at the first place behind its gate whose byte differs from this frame's, with that
-- byte, or at its end, where it ends before any differs or hasn't the stated length.
pub record IsOther (l : Layout) (c : List ℕ) (place : ℕ) (kept : Option ℕ) : Type 0 where
  pub file : IsOpenFile c
  pub same : (k : ℕ) → 0 < k → k < place → k < l.gates → slice_index c k ≡ slice_index l.head (k - 1)
  pub found : ((place < length c) × (place < l.gates) × (0 < place) × (slice_index c place ≢ slice_index l.head (place - 1))
      × (kept ≡ Some (slice_index c place)))
      ⊎ ((place ≡ length c) × (length c ≢ l.all) × (kept ≡ None))

-- among what is read under the name one file has this property, where anything is told
abbrev pub Read : (List ℕ → Type 0) → (List ℕ → Type 0) → Type 0
Read holds P = (c : List ℕ) → holds c → (d : List ℕ) × holds d × P d
