use Rattle.std.proofs.Common.{◌≡◌, ◌⊎◌, ◌<◌, ◌≤◌, length, ℕ}
use Rattle.std.specs.Prelude.{slice_index, ◌↔◌}
use Rattle.block_pool.specs.Counting.{times, mark_in}
use Rattle.block_pool.specs.Views.{IsMarking, MarksDrawn, words_known}
use Rattle.block_pool.proofs.steps.mark_all.Given as goal

abbrev pub invariant-loop-i : goal.invariant-loop-i
invariant-loop-i g l = record {
  same : (l.place.table_id ≡ l.initial.place.table_id) × (l.place.id ≡ l.initial.place.id) × (l.place.me.1 ≡ l.initial.place.me.1);
  view : IsMarking l.initial.place.me.0 l.place.me.0;
  behind : (k : ℕ) → k < l.i → k < length l.todo → g.P.Ordered.knows l.pen (slice_index l.todo k) ↔ (mark_in (words_known l.place.me.0) k ≡ 1);
  ahead : (k : ℕ) → l.i ≤ k → mark_in (words_known l.place.me.0) k ≡ mark_in (words_known l.initial.place.me.0) k;
  drawn : MarksDrawn (g.P.Ordered.knows l.pen) l.todo l.initial.place.me.0 l.place.me.0;
  marked : (k : ℕ) → k < l.i → k < length l.todo → g.P.Ordered.knows l.pen (slice_index l.todo k) → (0 < times k l.place.me.0.marked) ⊎ (mark_in (words_known l.initial.place.me.0) k ≡ 1);
}
