-- What comes of the triangles from here on comes of all.
use Rattle.std.proofs.Common.{◌≤◌, ◌<◌, ◌-◌, length}
use Rattle.item_blocks.specs.Tokens.{word_at}
use Rattle.object_items.specs.Sheets.{triangle_word, begins_triangle, IsMeshPart}
use Rattle.object_items.proofs.Wholes.{RowWhole}
use Rattle.object_items.proofs.sheets.mesh_parts.Given as goal

abbrev pub invariant-parts : goal.invariant-parts
invariant-parts l = record {
  after : l.at < l.next;
  within : l.next ≤ length l.tokens;
  grown : length l.fn.tables.things ≤ length l.tables.things;
  whole : RowWhole (begins_triangle l.tokens) (λ held at r. IsMeshPart l.tokens l.set l.depths l.thing (triangle_word (word_at l.tokens at)) held at r) l.fn.tables l.at l.tables l.next;
}

abbrev pub decreases-parts : goal.decreases-parts
decreases-parts l = length l.tokens - l.next
