use Rattle.std.proofs.Common.{◌≡◌, ◌+◌, ◌≤◌, All, vec_len, vec_capacity}
use Rattle.block_pool.specs.Pools.{IsNew}
use Rattle.block_pool.proofs.calls.deal.Given as goal

abbrev pub invariant-loop-k : goal.invariant-loop-k
invariant-loop-k g l = record {
  first : IsNew l.pool l.first;
  parts : l.first.place.me.0.parts + l._k ≡ l.callers + 1;
  count : vec_len l.seats + 1 ≡ l._k;
  room : l.callers ≤ vec_capacity l.seats;
  seats : All (λ seat. IsNew l.pool seat × (seat.place.me.0.parts ≡ 1)) l.seats.items;
}
