-- The places up to this one are touched, and the others are as they were.
use Rattle.std.proofs.Common.{◌≡◌, ◌<◌, ◌≤◌, ℕ, true, slice_index_or, vec_len}
use Rattle.shelf.proofs.mem_file.touch.Given as goal

abbrev pub invariant-loop-place : goal.invariant-loop-place
invariant-loop-place l = record {
  long : vec_len l.touched ≡ vec_len l.initial.touched;
  within : (k : ℕ) → l.from ≤ k → k < l.place → slice_index_or l.touched.items k true ≡ true;
  below : (k : ℕ) → k < l.from → slice_index_or l.touched.items k true ≡ slice_index_or l.initial.touched.items k true;
  above : (k : ℕ) → l.place ≤ k → slice_index_or l.touched.items k true ≡ slice_index_or l.initial.touched.items k true;
}
