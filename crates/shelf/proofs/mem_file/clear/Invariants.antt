-- The places up to this one are untouched.
use Rattle.std.proofs.Common.{◌≡◌, ◌<◌, ℕ, true, false, slice_index_or, vec_len}
use Rattle.shelf.proofs.mem_file.clear.Given as goal

abbrev pub invariant-loop-place : goal.invariant-loop-place
invariant-loop-place l = record {
  long : vec_len l.touched ≡ vec_len l.initial.touched;
  kept : (k : ℕ) → k < l.place → slice_index_or l.touched.items k true ≡ false;
}
