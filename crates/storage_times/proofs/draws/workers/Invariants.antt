use Rattle.std.proofs.Common.{◌≡◌, ◌+◌, ◌≤◌, All, vec_len, vec_capacity}
use Rattle.block_pool.specs.Pools.{IsIdle, IsNew, parts_of}
use Rattle.storage_times.proofs.draws.workers.Given as goal

abbrev pub invariant-loop-seat : goal.invariant-loop-seat
invariant-loop-seat l = record {
  seats : All (λ seat. IsNew l.pool seat × (parts_of seat ≡ 1)) l.seats.items;
  idle : All (λ worker. IsIdle l.pool worker.seat × (parts_of worker.seat ≡ 1)) l.list.items;
  count : vec_len l.list + vec_len l.seats ≡ vec_len l.initial.seats;
  room : vec_len l.initial.seats ≤ vec_capacity l.list;
}

abbrev pub decreases-loop-seat : goal.decreases-loop-seat
decreases-loop-seat l = vec_len l.seats
