-- What comes of the modifiers from here on comes of all.
use Rattle.std.proofs.Common.{◌≤◌, ◌-◌, length}
use Rattle.object_items.specs.Modifiers.{said_of}
use Rattle.object_items.proofs.Wholes.{SaidWhole}
use Rattle.object_items.proofs.statement.take_modifiers.Given as goal

abbrev pub invariant-modifiers : goal.invariant-modifiers
invariant-modifiers l = record {
  after : l.at ≤ l.next;
  within : l.next ≤ length l.tokens;
  marks : l.marks.things ≤ length l.tables.things;
  whole : SaidWhole l.tokens l.set l.depths l.mesh l.marks (said_of l.fn.modifiers l.fn.tables) l.at (said_of l.modifiers l.tables) l.next;
}

abbrev pub decreases-modifiers : goal.decreases-modifiers
decreases-modifiers l = length l.tokens - l.next
