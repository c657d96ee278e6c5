-- The bytes so far stand behind what was there, in the same room.
use Rattle.std.proofs.Common.{◌≡◌, ◌+◌, ◌++◌, take, vec_len, vec_capacity}
use Rattle.image_out.proofs.append.append.Given as goal

abbrev pub invariant-loop-byte : goal.invariant-loop-byte
invariant-loop-byte l = record {
  items : l.list.items ≡ l.initial.list.items ++ take l.byte-index l.bytes;
  length : vec_len l.list ≡ vec_len l.initial.list + l.byte-index;
  capacity : vec_capacity l.list ≡ vec_capacity l.initial.list;
}
