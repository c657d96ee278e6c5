-- Files as a shelf shows them. What a read gives is a relation between names and bytes, which has no pair at all
-- where the shelf doesn't tell, and so is what a crash may leave. Each step points backwards: what is there after it
-- comes from what was there before.
use Rattle.std.specs.Prelude.{ℕ, ◌+◌, ◌<◌, ◌≤◌, ◌≡◌, ◌≢◌, List, [], length, take, drop, max, min, slice_index, Option, Some, None, IfSome}

-- what a read gives: the bytes under each name
abbrev pub Contents : Type 1
Contents = List ℕ → List ℕ → Type 0

-- what a crash may leave at each moment: the bytes under each name
abbrev pub Images : Type 1
Images = ℕ → Contents

-- a file that is held: its name, and the greatest length that there is memory for
pub record Held : Type 0 where
  pub name : List ℕ
  pub most : ℕ

-- the files that are held, by slot
abbrev pub Slots : Type 0
Slots = ℕ → Option Held

abbrev pub name_at : Option Held → List ℕ
name_at None = []
name_at (Some h) = h.name

abbrev pub most_at : Option Held → ℕ
most_at None = 0
most_at (Some h) = h.most

-- no slot holds this name
abbrev pub IsFree : Slots → List ℕ → Type 0
IsFree slots name = (k : ℕ) → IfSome (slots k) (λ h. h.name ≢ name)

-- the slots stay as they are
abbrev pub SameSlots : Slots → Slots → Type 0
SameSlots before now = (k : ℕ) → now k ≡ before k

-- a further slot holds the name, and the others stay as they are
pub record Holds (before now : Slots) (slot : ℕ) (name : List ℕ) (most : ℕ) : Type 0 where
  pub free : before slot ≡ None
  pub filled : now slot ≡ Some (record { name = name; most = most })
  pub others : (k : ℕ) → k ≢ slot → now k ≡ before k

-- what is there under a name comes by this step from what was there
abbrev pub Follows : (List ℕ → List ℕ → Type 0) → (List ℕ → Type 0) → (List ℕ → Type 0) → Type 0
Follows step old new = (c : List ℕ) → new c → (d : List ℕ) × old d × step d c

-- what this step makes of what was there is there now
abbrev pub Leads : (List ℕ → List ℕ → Type 0) → (List ℕ → Type 0) → (List ℕ → Type 0) → Type 0
Leads step old new = (d c : List ℕ) → old d → step d c → new c

-- what is there is one of these
abbrev pub Within : (List ℕ → Type 0) → (List ℕ → Type 0) → Type 0
Within these new = (c : List ℕ) → new c → these c

-- nothing new under any name
abbrev pub SameContents : Contents → Contents → Type 0
SameContents old new = (n c : List ℕ) → new n c → old n c

-- nothing new under any other name
abbrev pub SameOthers : List ℕ → Contents → Contents → Type 0
SameOthers name old new = (n c : List ℕ) → n ≢ name → new n c → old n c

-- the same under every name
pub record Stay (old new : Contents) : Type 0 where
  pub back : SameContents old new
  pub forth : SameContents new old

-- under this name exactly what the step makes of what was there, and under the others the same
pub record Becomes (name : List ℕ) (step : List ℕ → List ℕ → Type 0) (old new : Contents) : Type 0 where
  pub back : Follows step (old name) (new name)
  pub forth : Leads step (old name) (new name)
  pub others_back : SameOthers name old new
  pub others_forth : SameOthers name new old

-- what was told is still told
abbrev pub Tells : Contents → Contents → Type 0
Tells old new = (n c : List ℕ) → old n c → (d : List ℕ) × new n d

-- the bytes written at a place, the file as long as they need
pub record Written (at : ℕ) (bytes old new : List ℕ) : Type 0 where
  pub long : length new ≡ max (length old) (at + length bytes)
  pub below : (k : ℕ) → k < at → slice_index new k ≡ slice_index old k
  pub within : (k : ℕ) → k < length bytes → slice_index new (at + k) ≡ slice_index bytes k
  pub above : (k : ℕ) → at + length bytes ≤ k → k < length old → slice_index new k ≡ slice_index old k

-- a write of so many bytes at a place was begun: the range may hold anything, and the file may have grown with it
pub record Torn (at count : ℕ) (old new : List ℕ) : Type 0 where
  pub no_shorter : length old ≤ length new
  pub no_longer : length new ≤ max (length old) (at + count)
  pub below : (k : ℕ) → k < at → k < length old → slice_index new k ≡ slice_index old k
  pub above : (k : ℕ) → at + count ≤ k → k < length old → slice_index new k ≡ slice_index old k

-- the file cut to a length
abbrev pub Shortened : ℕ → List ℕ → List ℕ → Type 0
Shortened size old new = new ≡ take size old

-- the file cut to a length, as a crash may leave it: what is left stays, and the file has any length between
pub record Cut (size : ℕ) (old new : List ℕ) : Type 0 where
  pub no_shorter : min size (length old) ≤ length new
  pub no_longer : length new ≤ length old
  pub kept : (k : ℕ) → k < length new → slice_index new k ≡ slice_index old k

-- a cut to a length was begun: the bytes below it stay, and the file has any length between
pub record Trimmed (size : ℕ) (old new : List ℕ) : Type 0 where
  pub no_shorter : min size (length old) ≤ length new
  pub no_longer : length new ≤ length old
  pub below : (k : ℕ) → k < size → k < length old → k < length new → slice_index new k ≡ slice_index old k

-- the bytes of a file from a place on
abbrev pub bytes_from : ℕ → ℕ → List ℕ → List ℕ
bytes_from at count c = take count (drop at c)
