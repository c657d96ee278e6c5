-- What comes of the items from here on comes of the scene.
use Rattle.std.proofs.Common.{◌≤◌, ◌-◌, length}
use Rattle.scene_parser.specs.Scenes.{draft_seen}
use Rattle.scene_parser.specs.Sound.{IsGood}
use Rattle.scene_parser.proofs.Items.{Whole}
use Rattle.scene_parser.proofs.scene.parse.Given as goal

abbrev pub invariant-items : goal.invariant-items
invariant-items l = record {
  within : l.next ≤ length l.tokens;
  whole : Whole l.tokens l.set (draft_seen l.draft) l.next;
  good : IsGood l.draft;
}

abbrev pub decreases-items : goal.decreases-items
decreases-items l = length l.tokens - l.next
