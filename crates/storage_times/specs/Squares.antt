-- Square pictures of whole blocks.
use Rattle.std.specs.Prelude.{ℕ, ◌*◌, ◌≡◌, ◌≤◌, List, length}
use Rattle.state_file.specs.Blocks.{IsAt}
use Rattle.state_file.specs.declared.block.DoneBlock.{DoneBlock}
use Rattle.state_file.specs.declared.geometry.Geometry.{Geometry}

-- so many blocks a side, of 8 bits a sample
pub record IsSquare (side : ℕ) (g : Geometry) : Type 0 where
  pub some : 1 ≤ side
  pub wide : g.width ≡ 32 * side
  pub high : g.height ≡ 32 * side
  pub bits : g.bits ≡ 8

-- as many blocks as the square has, each with its place as its number, and 1,024 pixels
pub record AreNumbered (n : ℕ) (list : List DoneBlock) : Type 0 where
  pub count : length list ≡ n
  pub each : (j : ℕ) (block : DoneBlock) → IsAt list j block → (block.index ≡ j) × (length block.pixels.items ≡ 3072)
