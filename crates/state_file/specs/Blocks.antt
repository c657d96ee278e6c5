-- The blocks that a commit is given.
use Rattle.std.specs.Prelude.{ℕ, ◌+◌, ◌<◌, ◌≡◌, ◌≢◌, ◌⊎◌, List, length, Option, Some, slice_get, slice_index}
use Rattle.state_file.specs.declared.block.DoneBlock.{DoneBlock}
use Rattle.state_file.specs.declared.mark.Mark.{Mark}
use Rattle.state_file.specs.declared.mark.Mark.TheVariants.{Shut, Open}
use Rattle.state_file.specs.Layout.{Layout}
use Rattle.state_file.specs.Marks.{mark_at}

-- the list holds this block at this place
abbrev pub IsAt : List DoneBlock → ℕ → DoneBlock → Type 0
IsAt given j block = slice_get given j ≡ Some block

-- the list names this block
abbrev pub IsNamed : List DoneBlock → ℕ → Type 0
IsNamed given b = (j : ℕ) × (block : DoneBlock) × IsAt given j block × (block.index ≡ b)

-- each number is a block's, with as many bytes as that block has, and no number stands twice
pub record AreBlocks (l : Layout) (given : List DoneBlock) : Type 0 where
  pub index : (j : ℕ) (block : DoneBlock) → IsAt given j block → block.index < l.count
  pub size : (j : ℕ) (block : DoneBlock) → IsAt given j block → length block.pixels.items ≡ l.size block.index
  pub once : (i j : ℕ) (x y : DoneBlock) → IsAt given i x → IsAt given j y → x.index ≡ y.index → i ≡ j

-- the block has this picture's pixels
abbrev pub IsTrueBlock : Layout → List ℕ → DoneBlock → Type 0
IsTrueBlock l picture block = (k : ℕ) → k < l.size block.index
    → slice_index block.pixels.items k ≡ slice_index picture (l.spot block.index k)

-- each of them has, where a picture is named
abbrev pub AreTrue : Layout → List DoneBlock → Option (List ℕ) → Type 0
AreTrue l given truth = (picture : List ℕ) → truth ≡ Some picture → (j : ℕ) (block : DoneBlock) → IsAt given j block
    → IsTrueBlock l picture block

-- the file has the block's bytes
abbrev pub HasBytes : Layout → DoneBlock → List ℕ → Type 0
HasBytes l block c = (k : ℕ) → k < l.size block.index
    → slice_index c (l.pixels block.index + k) ≡ slice_index block.pixels.items k

-- the block's bytes are there, and those of each other block are as they were
pub record PutsPixels (l : Layout) (block : DoneBlock) (old new : List ℕ) : Type 0 where
  pub has : HasBytes l block new
  pub others : (a k : ℕ) → a < l.count → a ≢ block.index → k < l.size a
      → slice_index new (l.pixels a + k) ≡ slice_index old (l.pixels a + k)

-- a shut block's bytes are there, and those of each other block are as they were
pub record PutsShut (l : Layout) (marks : List Mark) (block : DoneBlock) (old new : List ℕ) : Type 0 where
  pub has : mark_at marks block.index ≡ Shut → HasBytes l block new
  pub others : (a k : ℕ) → a < l.count → a ≢ block.index → k < l.size a
      → slice_index new (l.pixels a + k) ≡ slice_index old (l.pixels a + k)

-- the file has the bytes of each of the first so many blocks that is shut
abbrev pub AreThere : Layout → List Mark → List DoneBlock → ℕ → List ℕ → Type 0
AreThere l marks given n c = (j : ℕ) (block : DoneBlock) → j < n → IsAt given j block
    → mark_at marks block.index ≡ Shut → HasBytes l block c

-- the gate of this block is open, and each other gate is as it was
pub record OpensGate (l : Layout) (b : ℕ) (old new : List ℕ) : Type 0 where
  pub opened : slice_index new (l.gates + b) ≢ 0
  pub others : (a : ℕ) → a < l.count → a ≢ b → slice_index new (l.gates + a) ≡ slice_index old (l.gates + a)

-- the gates of the first so many blocks are open
abbrev pub AreOpened : Layout → List DoneBlock → ℕ → List ℕ → Type 0
AreOpened l given n c = (j : ℕ) (block : DoneBlock) → j < n → IsAt given j block
    → slice_index c (l.gates + block.index) ≢ 0

-- each of these blocks has this mark
abbrev pub AreMarked : Mark → List DoneBlock → List Mark → Type 0
AreMarked mark given marks = (j : ℕ) (block : DoneBlock) → IsAt given j block → mark_at marks block.index ≡ mark

-- none of these blocks is known to be open
abbrev pub AreClosed : List DoneBlock → List Mark → Type 0
AreClosed given marks = (j : ℕ) (block : DoneBlock) → IsAt given j block → mark_at marks block.index ≢ Open

-- the named blocks have this mark, and each other one has the mark that it had
pub record Marks (mark : Mark) (given : List DoneBlock) (old new : List Mark) : Type 0 where
  pub named : AreMarked mark given new
  pub others : (b : ℕ) → (IsNamed given b × (mark_at new b ≡ mark)) ⊎ (mark_at new b ≡ mark_at old b)

-- some of the named blocks have this mark, and each other block has the mark that it had
abbrev pub MarksOnly : Mark → List DoneBlock → List Mark → List Mark → Type 0
MarksOnly mark given old new = (b : ℕ) → (IsNamed given b × (mark_at new b ≡ mark)) ⊎ (mark_at new b ≡ mark_at old b)
