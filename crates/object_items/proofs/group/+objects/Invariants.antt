-- What comes of the parts from here on comes of all. A part is read where one brace more is open than round its group.
use Rattle.std.proofs.Common.{◌≤◌, ◌<◌, ◌+◌, ◌-◌, ◌*◌, true, length}
use Rattle.object_items.specs.Objects.{begins_object, no_parts, parts_of, IsNext, IsPart}
use Rattle.object_items.proofs.Wholes.{RowWhole}
use Rattle.object_items.proofs.group.+objects.Given as goal

abbrev pub decreases-group : goal.decreases-group
decreases-group l = l.depths * 8

abbrev pub decreases-holder : goal.decreases-holder
decreases-holder l = l.depths * 8

abbrev pub decreases-object : goal.decreases-object
decreases-object l = l.depths * 8 + 1

abbrev pub decreases-part : goal.decreases-part
decreases-part l = l.depths * 8 + 2

abbrev pub decreases-next_part : goal.decreases-next_part
decreases-next_part l = l.depths * 8 + 3

abbrev pub decreases-parts : goal.decreases-parts
decreases-parts l = l.depths * 8 + 4

abbrev pub invariant-parts-parts : goal.invariant-parts-parts
invariant-parts-parts l = record {
  after : l.at < l.next;
  within : l.next ≤ length l.tokens;
  grown : length l.fn.tables.things ≤ length l.tables.things;
  whole : RowWhole (begins_object l.sheets l.tokens) (IsNext (IsPart l.tokens l.set l.depths) l.sheets l.op) (no_parts l.fn.tables) l.at (parts_of l.tables l.shapes.items true) l.next;
}

abbrev pub decreases-parts-parts : goal.decreases-parts-parts
decreases-parts-parts l = length l.tokens - l.next
