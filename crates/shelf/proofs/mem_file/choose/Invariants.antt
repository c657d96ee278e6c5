-- The places up to this one have their bytes, and the others are as they were.
use Rattle.std.proofs.Common.{◌≡◌, ◌+◌, ◌*◌, ◌<◌, ◌≤◌, ℕ, true, take, slice_index, slice_index_or, vec_len}
use Rattle.shelf.specs.Picks.{byte_by}
use Rattle.shelf.proofs.mem_file.choose.Given as goal

abbrev pub invariant-loop-place : goal.invariant-loop-place
invariant-loop-place l = record {
  long : vec_len l.buffer ≡ vec_len l.initial.buffer;
  bytes : (k : ℕ) → k < l.place → slice_index l.buffer.items k ≡ byte_by (slice_index_or l.touched k true) (slice_index l.synced k)
      (slice_index (take l.len l.initial.buffer.items) k) (slice_index l.picks (2 * k)) (slice_index l.picks (2 * k + 1));
  others : (k : ℕ) → l.place ≤ k → slice_index l.buffer.items k ≡ slice_index l.initial.buffer.items k;
}
