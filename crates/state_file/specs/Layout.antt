-- A state file by its places, and what its bytes say.
use Rattle.std.specs.Prelude.{ℕ, ◌+◌, ◌<◌, ◌≤◌, ◌≡◌, ◌≢◌, ◌⊎◌, List, length, slice_index}

-- where the parts of a state file lie
pub record Layout : Type 0 where
  -- how many blocks it has
  pub count : ℕ
  -- the bytes behind its own gate: version, sizes and key
  pub head : List ℕ
  -- the place of the gate of block 0
  pub gates : ℕ
  -- the place of each block's pixels
  pub pixels : ℕ → ℕ
  -- how many bytes they have
  pub size : ℕ → ℕ
  -- how long the file is
  pub all : ℕ
  -- where each byte of a block lies in the picture
  pub spot : ℕ → ℕ → ℕ
  -- how many bytes the picture has
  pub picture : ℕ

-- the parts follow one another, and no two blocks share a byte of the file or of the picture
pub record IsLaidOut (l : Layout) : Type 0 where
  pub head : 1 + length l.head ≡ l.gates
  pub wide : 2 ≤ l.gates
  pub some : 0 < l.count
  pub gates : l.gates + l.count ≤ l.all
  pub behind : (b : ℕ) → b < l.count → l.gates + l.count ≤ l.pixels b
  pub inside : (b : ℕ) → b < l.count → l.pixels b + l.size b ≤ l.all
  pub apart : (b d : ℕ) → b < l.count → d < l.count → b ≢ d
      → (l.pixels b + l.size b ≤ l.pixels d) ⊎ (l.pixels d + l.size d ≤ l.pixels b)
  pub within : (b k : ℕ) → b < l.count → k < l.size b → l.spot b k < l.picture
  pub alone : (b d j k : ℕ) → b < l.count → d < l.count → j < l.size b → k < l.size d → b ≢ d → l.spot b j ≢ l.spot d k

-- the file's own gate is open: it doesn't count as absent
pub record IsOpenFile (c : List ℕ) : Type 0 where
  pub long : 2 ≤ length c
  pub gate : slice_index c 0 ≢ 0

-- an open file with this version, these sizes and this key, of the stated length
pub record IsThisFrame (l : Layout) (c : List ℕ) : Type 0 where
  pub long : length c ≡ l.all
  pub gate : slice_index c 0 ≢ 0
  pub head : (k : ℕ) → k < length l.head → slice_index c (1 + k) ≡ slice_index l.head k

-- the block's gate stands open in a file of this frame
pub record IsOpenBlock (l : Layout) (b : ℕ) (c : List ℕ) : Type 0 where
  pub file : IsThisFrame l c
  pub gate : slice_index c (l.gates + b) ≢ 0

-- the file has the block's pixels as in this picture
abbrev pub HasPixels : Layout → List ℕ → ℕ → List ℕ → Type 0
HasPixels l picture b c = (k : ℕ) → k < l.size b → slice_index c (l.pixels b + k) ≡ slice_index picture (l.spot b k)

-- each open block has the picture's pixels
abbrev pub IsHonest : Layout → List ℕ → List ℕ → Type 0
IsHonest l picture c = (b : ℕ) → b < l.count → IsOpenBlock l b c → HasPixels l picture b c

-- the file is absent or this frame's
abbrev pub IsOwn : Layout → List ℕ → Type 0
IsOwn l c = IsOpenFile c → IsThisFrame l c

-- the file can be read, and the block is open in all that a crash may leave of it
pub record IsAcknowledged (l : Layout) (b : ℕ) (holds images : List ℕ → Type 0) : Type 0 where
  pub seen : List ℕ
  pub told : holds seen
  pub each : (c : List ℕ) → images c → IsOpenBlock l b c
