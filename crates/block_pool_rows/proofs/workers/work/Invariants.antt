use Rattle.std.proofs.Common.{◌≡◌}
use Rattle.block_pool.specs.Pools.{IsIdle, parts_of}
use Rattle.block_pool_rows.proofs.workers.work.Given as goal

abbrev pub invariant-loop-turn : goal.invariant-loop-turn
invariant-loop-turn l = record {
  idle : IsIdle l.pool l.worker.seat;
  parts : parts_of l.worker.seat ≡ parts_of l.initial.worker.seat;
}
