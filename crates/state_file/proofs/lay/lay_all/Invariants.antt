use Rattle.std.proofs.Common.{◌<◌, ◌≡◌, ℕ, slice_index}
use Rattle.state_file.specs.declared.block.DoneBlock.{DoneBlock}
use Rattle.state_file.specs.Blocks.{IsAt, IsNamed, IsTrueBlock}
use Rattle.state_file.specs.Frames.{layout}
use Rattle.state_file.proofs.lay.lay_all.Given as goal

abbrev pub invariant-loop-block : goal.invariant-loop-block
invariant-loop-block l = record {
  here : (j : ℕ) (block : DoneBlock) → j < l.block-index → IsAt l.blocks j block → IsTrueBlock (layout l.frame) l.picture block;
  others : (b k : ℕ) → b < (layout l.frame).count → ¬ (IsNamed l.blocks b) → k < (layout l.frame).size b
      → slice_index l.picture ((layout l.frame).spot b k) ≡ slice_index l.initial.picture ((layout l.frame).spot b k);
}
