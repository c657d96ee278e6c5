-- Each turn takes one mark or byte.
use Rattle.std.proofs.Common.{arith}
use Rattle.scene_lexer.proofs.CommentLemmas.{comment_start, comment_more, comment_end, comment_out}
use Rattle.scene_lexer.proofs.comment.closed_comment.Goals as goal

pub comment-init : goal.comment-init
comment-init c = comment_start c.args.text.now c.requires.opens

pub returns-then-at-text : goal.returns-then-at-text
returns-then-at-text c = comment_out c.args.text.now c.comment.at c.comment.depth c.comment.lines c.comment.invariant (omega arith) (omega arith)

pub comment-preserved : goal.comment-preserved
comment-preserved c =
    comment_more c.args.text.now c.rest_of.result.now c.comment.at c.comment.depth c.comment.lines c.passed-open.result.0 c.passed-open.result.1 c.line_end-lines.result
    c.comment.invariant (omega arith) (omega arith) c.rest_of.ensures c.passed-open.ensures.depth c.passed-open.ensures.length c.line_end-lines.ensures

pub returns : goal.returns
returns c = comment_end c.args.text.now c.comment.at c.comment.depth c.comment.lines c.comment.invariant (omega arith)
