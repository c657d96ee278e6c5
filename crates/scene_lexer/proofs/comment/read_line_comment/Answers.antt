-- The line's rest is the longest piece.
use Rattle.scene_lexer.proofs.CommentLemmas.{line_found}
use Rattle.scene_lexer.proofs.comment.read_line_comment.Goals as goal

pub returns : goal.returns
returns c = line_found c.args.place c.args.text.now c.line_length.result c.requires.opens c.line_length.ensures.length
