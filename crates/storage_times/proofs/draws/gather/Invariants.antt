use Rattle.std.proofs.Common.{◌≡◌, ◌+◌, All, vec_len}
use Rattle.block_pool.specs.Pools.{IsIdle, parts_of, terms_of}
use Rattle.storage_times.proofs.draws.gather.Given as goal

abbrev pub invariant-loop-worker : goal.invariant-loop-worker
invariant-loop-worker l = record {
  first : IsIdle l.pool l.first;
  others : All (λ worker. IsIdle l.pool worker.seat × (parts_of worker.seat ≡ 1)) l.others.items;
  parts : parts_of l.first + vec_len l.others ≡ (terms_of l.pool).callers;
}

abbrev pub decreases-loop-worker : goal.decreases-loop-worker
decreases-loop-worker l = vec_len l.others
