use Rattle.std.proofs.Common.{◌≡◌, ◌<◌, ℕ, vec_len, slice_index}
use Rattle.storage_times.proofs.claims.numbers.Given as goal

abbrev pub invariant-loop-number : goal.invariant-loop-number
invariant-loop-number l = record {
  count : vec_len l.list ≡ l.number;
  each : (i : ℕ) → i < l.number → slice_index l.list.items i ≡ i;
}
