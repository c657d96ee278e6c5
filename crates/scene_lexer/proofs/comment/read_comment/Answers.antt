-- The closed comment is the longest piece, or the open one is.
use Rattle.scene_lexer.proofs.CommentLemmas.{comment_found, comment_open}
use Rattle.scene_lexer.proofs.comment.read_comment.Goals as goal

pub returns-in-Some-clause-found : goal.returns-in-Some-clause-found
returns-in-Some-clause-found c = comment_found c.args.place c.args.text.now c.in-Some.found c.requires.opens c.in-Some.ensures

pub returns-in-None-clause-fault : goal.returns-in-None-clause-fault
returns-in-None-clause-fault c = comment_open c.args.place c.args.text.now c.requires.opens c.in-None.ensures
