-- What comes of the numbers that are left comes of all.
use Rattle.std.proofs.Common.{◌≡◌, ◌≤◌, ◌-◌, ℤ, List, [], take, length, Result}
use Rattle.item_blocks.specs.declared.fault.ParseFault.{ParseFault}
use Rattle.item_blocks.specs.Tokens.{Behind}
use Rattle.item_blocks.specs.Steps.{IsNumbers}
use Rattle.item_blocks.proofs.steps.numbers.Given as goal

abbrev pub invariant-numbers : goal.invariant-numbers
invariant-numbers l = record {
  after : l.at ≤ l.next;
  within : l.next ≤ length l.tokens;
  twelve : length l.v ≡ 12;
  whole : (r : Result (Behind (List ℤ)) ParseFault) → IsNumbers l.tokens l.set (12 - l.i) (take l.i l.v) l.next r → IsNumbers l.tokens l.set 12 [] l.at r;
}
