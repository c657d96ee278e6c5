use Rattle.std.proofs.Common.{◌≡◌, ◌<◌, ℕ, vec_len, slice_index}
use Rattle.block_pool_rows.proofs.threads.blocks.Given as goal

abbrev pub invariant-loop-block : goal.invariant-loop-block
invariant-loop-block l = record {
  count : vec_len l.list ≡ l.block;
  each : (i : ℕ) → i < l.block → slice_index l.list.items i ≡ i;
}
