-- A pool over a pen of a state file, and the picture that it is for.
use Rattle.std.specs.Prelude.{◌≡◌, ℕ, ◌*◌, ◌<◌, List, length, slice_index}
use Rattle.shelf.specs.declared.disk.Shelf.{Ghosts}
use Rattle.state_file.specs.declared.block.DoneBlock.{DoneBlock}
use Rattle.std.proofs.Common.{subst, sym}
use Rattle.state_file.specs.declared.frame.Frame.{Frame}
use Rattle.state_file.specs.Frames.{layout}
use Rattle.state_file.specs.declared.geometry.Geometry.{Geometry}
use Rattle.state_file.specs.declared.pen.Pen.{Pen}
use Rattle.state_file.specs.Pens.{IsInOrder, knows_open, layout_in}
use Rattle.state_file.specs.Shape.{pixel_bytes, block_bytes, spot_of}

-- the bytes of a block of 32 by 32 pixels
abbrev pub whole_block : Geometry → ℕ
whole_block g = 1024 * pixel_bytes g

-- the block has its bytes of this picture
pub record IsDrawnBlock (g : Geometry) (picture : List ℕ) (block : DoneBlock) : Type 0 where
  pub long : length block.pixels.items ≡ block_bytes g block.index
  pub true : (k : ℕ) → k < block_bytes g block.index → slice_index block.pixels.items k ≡ slice_index picture (spot_of g block.index k)

module _ {S : Type 0} {g : Ghosts S} where
  abbrev pub IsBlockOf : Pen S g → ℕ → Type 0
  IsBlockOf pen x = x < (layout_in pen).count

  -- The pool's picture: the pen's own in each block that it knew open at the start, and the tracer's in every other block.
  pub record IsPoolPicture (drawn : List ℕ) (start : Pen S g) (truth : List ℕ) : Type 0 where
    pub known : (b k : ℕ) → b < (layout_in start).count → knows_open start b → k < (layout_in start).size b
        → slice_index start.picture.items ((layout_in start).spot b k) ≡ slice_index truth ((layout_in start).spot b k)
    pub traced : (b k : ℕ) → b < (layout_in start).count → (knows_open start b → ⊥) → k < (layout_in start).size b
        → slice_index drawn ((layout_in start).spot b k) ≡ slice_index truth ((layout_in start).spot b k)

  -- The pen is in order since the start, for the pool's picture.
  pub record IsPenInOrder (drawn : List ℕ) (start pen : Pen S g) : Type 0 where
    pub frame : pen.frame ≡ start.frame
    pub order : (truth : List ℕ) → IsPoolPicture drawn start truth → IsInOrder truth start pen

  -- The list holds different blocks of the pen's file, none of them known open.
  pub record AreLeft (pen : Pen S g) (list : List ℕ) : Type 0 where
    pub apart : (i j : ℕ) → i < length list → j < length list → slice_index list i ≡ slice_index list j → i ≡ j
    pub blocks : (i : ℕ) → i < length list → IsBlockOf pen (slice_index list i)
    pub closed : (i : ℕ) → i < length list → knows_open pen (slice_index list i) → ⊥

  -- a pen in order has the blocks of the start
  pub keeps_blocks_of : (drawn : List ℕ) (start pen : Pen S g) → IsPenInOrder drawn start pen → (x : ℕ) → IsBlockOf start x → IsBlockOf pen x
  keeps_blocks_of drawn start pen h x below = let Q : Frame → Type 0 = λ f. x < (layout f).count in subst Q (sym h.frame) below
