-- Files in memory, and what a shelf over a list of them shows.
use Rattle.std.specs.Prelude.{ℕ, ◌+◌, ◌<◌, ◌≤◌, Bool, true, false, ◌≡◌, ◌≢◌, ◌⊎◌, List, [], length, max, min, Option, Some, None, slice_get, slice_index, slice_index_or, if◌then◌else◌}
use Rattle.std.specs.Option.{option_and_then}
use Rattle.shelf.specs.Disk.{Becomes, Contents, Held, SameOthers, SameSlots, Slots, Tells, name_at}

-- ---- what a crash may leave of one file

-- the bytes at the last sync, which places may hold anything, up to the greatest length since then, and the least length since then
pub record Left : Type 0 where
  pub synced : List ℕ
  pub touched : List Bool
  pub shortest : ℕ

-- the bytes that a crash may leave: a length between, and the last sync's byte at each place that wasn't written since
pub record IsLeft (left : Left) (c : List ℕ) : Type 0 where
  pub no_shorter : left.shortest ≤ length c
  pub no_longer : length c ≤ length left.touched
  pub kept : (k : ℕ) → k < length c → slice_index_or left.touched k true ≡ false → slice_index c k ≡ slice_index left.synced k

-- the places from one on, so many of them, may hold anything, and the file may have grown with them
pub record IsTouched (at count : ℕ) (old new : Left) : Type 0 where
  pub synced : new.synced ≡ old.synced
  pub shortest : new.shortest ≡ old.shortest
  pub long : length new.touched ≡ max (length old.touched) (at + count)
  pub within : (k : ℕ) → at ≤ k → k < at + count → slice_index_or new.touched k true ≡ true
  pub below : (k : ℕ) → k < at → slice_index_or new.touched k true ≡ slice_index_or old.touched k true
  pub above : (k : ℕ) → at + count ≤ k → slice_index_or new.touched k true ≡ slice_index_or old.touched k true

-- the file may have this length too, and hold anything from there on
pub record IsOpened (size : ℕ) (old new : Left) : Type 0 where
  pub synced : new.synced ≡ old.synced
  pub shortest : new.shortest ≡ min old.shortest size
  pub long : length new.touched ≡ length old.touched
  pub below : (k : ℕ) → k < size → slice_index_or new.touched k true ≡ slice_index_or old.touched k true
  pub above : (k : ℕ) → size ≤ k → slice_index_or new.touched k true ≡ true

-- nothing was written since these bytes were synced
pub record IsSettled (text : List ℕ) (left : Left) : Type 0 where
  pub synced : left.synced ≡ text
  pub shortest : left.shortest ≡ length text
  pub long : length left.touched ≡ length text
  pub kept : (k : ℕ) → k < length text → slice_index_or left.touched k true ≡ false

-- ---- files

-- a file: its name, what it reads as, what a crash may leave of it, whether it is held, and the greatest length that it may then take
pub record Stored : Type 0 where
  pub name : List ℕ
  pub text : List ℕ
  pub left : Left
  pub is_held : Bool
  pub most : ℕ

-- what it reads as is among what a crash may leave; what it has of places past its least length was written
pub record IsSound (file : Stored) : Type 0 where
  pub reads : IsLeft file.left file.text
  pub grown : (k : ℕ) → file.left.shortest ≤ k → k < length file.text → slice_index_or file.left.touched k true ≡ true

-- the slot of a file that is held
abbrev pub slot_of : Stored → Option Held
slot_of file = if file.is_held then Some (record { name = file.name; most = file.most }) else None

-- each file has the slot of its place in the list
abbrev pub slots_in : List Stored → Slots
slots_in files place = option_and_then slot_of (slice_get files place)

-- the file at a place has this name, and these bytes are bytes of it
pub record Shows (P : Stored → List ℕ → Type 0) (files : List Stored) (name c : List ℕ) : Type 0 where
  pub place : ℕ
  pub file : Stored
  pub found : slice_get files place ≡ Some file
  pub named : file.name ≡ name
  pub shows : P file c

-- no file has this name
abbrev pub IsAbsent : List Stored → List ℕ → Type 0
IsAbsent files name = (place : ℕ) (file : Stored) → slice_get files place ≡ Some file → file.name ≢ name

-- bytes of the file under a name, and no bytes where there is no such file
abbrev pub under : (Stored → List ℕ → Type 0) → List Stored → Contents
under P files name c = Shows P files name c ⊎ (IsAbsent files name × (c ≡ []))

-- what each file reads as
abbrev pub texts_in : List Stored → Contents
texts_in files = under (λ file c. file.text ≡ c) files

-- what a crash may leave of each file
abbrev pub images_in : List Stored → Contents
images_in files = under (λ file c. IsLeft file.left c) files

-- no two files have one name
abbrev pub OneEach : List Stored → Type 0
OneEach files = (i j : ℕ) (f g : Stored)
    → slice_get files i ≡ Some f → slice_get files j ≡ Some g → f.name ≡ g.name → i ≡ j

abbrev pub AreSound : List Stored → Type 0
AreSound files = (k : ℕ) (f : Stored) → slice_get files k ≡ Some f → IsSound f

-- the file in a slot changes: what a crash may leave of it is exactly what the step makes of what it might have left
pub record IsChange (slot : ℕ) (step : List ℕ → List ℕ → Type 0) (old new : List Stored) : Type 0 where
  pub others : SameOthers (name_at (slots_in old slot)) (texts_in old) (texts_in new)
  pub tells : Tells (texts_in old) (texts_in new)
  pub left : Becomes (name_at (slots_in old slot)) step (images_in old) (images_in new)
  pub slots : SameSlots (slots_in old) (slots_in new)
  pub one_each : OneEach new
  pub sound : AreSound new
