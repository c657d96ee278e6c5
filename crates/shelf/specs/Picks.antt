-- How a list of picks chooses what a crash leaves. Each place of each file takes two of them, in the order of files and places, up to
-- the file's greatest length; where the list is at its end, picks are 0. The first pick says: 0, as at the last sync; 1, as a read
-- gives; 3, the file ends here; any other, the byte is the second pick. A place that wasn't written since the last sync keeps its
-- byte, and the file ends only where it may.
use Rattle.std.specs.Prelude.{ℕ, ◌+◌, ◌*◌, ◌<◌, ◌≤◌, ◌≡◌, ◌⊎◌, ◌==◌, ◌^◌, Bool, true, false, if◌then◌else◌, List, [], ◌∷◌, length, drop, slice_index, slice_index_or}
use Rattle.shelf.specs.Stored.{Stored, IsSettled, OneEach, images_in, texts_in}

-- by this pick a file of these lengths ends at a place: its least length, its length at the last sync, and its length now
pub record EndsBy (shortest synced now pick k : ℕ) : Type 0 where
  pub may : shortest ≤ k
  pub does : ((pick ≡ 0) × (synced ≤ k)) ⊎ (((pick ≡ 1) × (now ≤ k)) ⊎ (pick ≡ 3))

-- the byte at a place that was written or not, by its two picks: as at the last sync, as a read gives, or the second pick
abbrev pub byte_by : Bool → ℕ → ℕ → ℕ → ℕ → ℕ
byte_by touched synced now pick value = if touched then (if pick == 0 then synced else (if pick == 1 then now else value)) else synced

-- the bytes that the picks choose of a file
pub record IsPicked (file : Stored) (picks c : List ℕ) : Type 0 where
  pub no_longer : length c ≤ length file.left.touched
  pub goes_on : (k : ℕ) → k < length c → ¬ EndsBy file.left.shortest (length file.left.synced) (length file.text) (slice_index picks (2 * k)) k
  pub ends : length c < length file.left.touched
      → EndsBy file.left.shortest (length file.left.synced) (length file.text) (slice_index picks (2 * length c)) (length c)
  pub bytes : (k : ℕ) → k < length c → slice_index c k ≡ byte_by (slice_index_or file.left.touched k true) (slice_index file.left.synced k)
      (slice_index file.text k) (slice_index picks (2 * k)) (slice_index picks (2 * k + 1))

-- a file as the picks leave it: none of its bytes may be lost any more, and it isn't held
pub record IsPickedFile (file : Stored) (picks : List ℕ) (now : Stored) : Type 0 where
  pub named : now.name ≡ file.name
  pub picked : IsPicked file picks now.text
  pub settled : IsSettled now.text now.left
  pub free : now.is_held ≡ false

-- each file in its turn
abbrev pub ArePicked : List Stored → List ℕ → List Stored → Type 0
ArePicked [] picks [] = Unit {0}
ArePicked (file ∷ files) picks (now ∷ others) = IsPickedFile file picks now × ArePicked files (drop (2 * length file.left.touched) picks) others
ArePicked [] picks (now ∷ others) = ⊥
ArePicked (file ∷ files) picks [] = ⊥

-- all of these are bytes
abbrev pub AreBytes : List ℕ → Type 0
AreBytes c = (k : ℕ) → k < length c → slice_index c k < 2 ^ 8

-- each choice of one image under each name has its picks
abbrev pub HavePicks : Type 0
HavePicks = (files : List Stored) → OneEach files → (image : List ℕ → List ℕ) → ((n : List ℕ) → images_in files n (image n)) → ((n : List ℕ) → AreBytes (image n))
    → (picks : List ℕ) × AreBytes picks × ((now : List Stored) → ArePicked files picks now → (n : List ℕ) → texts_in now n (image n))
