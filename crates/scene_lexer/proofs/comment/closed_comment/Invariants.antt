-- How many comments are open here.
use Rattle.std.proofs.Common.{◌-◌, length}
use Rattle.scene_lexer.proofs.CommentLemmas.{IsInComment}
use Rattle.scene_lexer.proofs.comment.closed_comment.Given as goal

abbrev pub invariant-comment : goal.invariant-comment
invariant-comment l = IsInComment l.text l.at l.depth l.lines

abbrev pub decreases-comment : goal.decreases-comment
decreases-comment l = length l.text - l.at
