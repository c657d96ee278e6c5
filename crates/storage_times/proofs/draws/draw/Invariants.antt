use Rattle.std.proofs.Common.{◌≡◌}
use Rattle.block_pool.specs.Pools.{IsIdle, parts_of}
use Rattle.storage_times.proofs.draws.draw.Given as goal

abbrev pub invariant-loop-drawn : goal.invariant-loop-drawn
invariant-loop-drawn l = record {
  idle : IsIdle l.pool l.seat;
  parts : parts_of l.seat ≡ parts_of l.initial.seat;
}
