use Rattle.std.proofs.Common.{◌≡◌, ◌+◌, List, length, ℕ}
use Rattle.block_pool.specs.Views.{knowing}
use Rattle.block_pool.proofs.steps.read_all.Given as goal

abbrev pub invariant-loop-word : goal.invariant-loop-word
invariant-loop-word g l = record {
  same : (l.place.table_id ≡ l.initial.place.table_id) × (l.place.id ≡ l.initial.place.id);
  read : (known : List ℕ) × (2 + length known ≡ l.word) × (l.place.me ≡ (knowing l.initial.place.me.0 known, l.initial.place.me.1));
}
