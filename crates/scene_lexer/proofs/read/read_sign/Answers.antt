-- The longest piece is a sign of two bytes, of one, or there is none.
use Rattle.std.proofs.Common.{sym, ◌∙◌}
use Rattle.scene_lexer.proofs.SignLemmas.{pair_found, sign_found, bad_found}
use Rattle.scene_lexer.proofs.read.read_sign.Goals as goal

pub returns-in-Some-clause-found : goal.returns-in-Some-clause-found
returns-in-Some-clause-found c =
    pair_found c.args.place c.args.text.now c.in-Some.code c.requires.some c.requires.solid c.requires.letter c.requires.quote c.requires.number c.requires.line_comment c.requires.comment
    (sym c.in-Some.ensures)

pub returns-then-is_sign_byte-clause-found : goal.returns-then-is_sign_byte-clause-found
returns-then-is_sign_byte-clause-found c =
    sign_found c.args.place c.args.text.now c.requires.some c.requires.solid c.requires.letter c.requires.quote c.requires.number c.requires.line_comment c.requires.comment
    (sym c.two_byte_sign.ensures ∙ c.in_default.is) (sym c.if-is_sign_byte.ensures)

pub returns-else-is_sign_byte-clause-fault : goal.returns-else-is_sign_byte-clause-fault
returns-else-is_sign_byte-clause-fault c =
    bad_found c.args.place c.args.text.now c.requires.some c.requires.solid c.requires.letter c.requires.quote c.requires.number c.requires.line_comment c.requires.comment
    (sym c.if-is_sign_byte.ensures)
