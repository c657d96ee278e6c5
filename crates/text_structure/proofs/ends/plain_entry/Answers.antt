use Rattle.std.proofs.Common.{sym, ◌∙◌}
use Rattle.text_structure.proofs.Rows.{closed, passed}
use Rattle.text_structure.proofs.ends.plain_entry.Goals as goal

pub returns-then-closes : goal.returns-then-closes
returns-then-closes c = closed _ c.args.closer c.args.at c.args.code c.requires.plain (sym c.closes.ensures ∙ c.if-closes.true)

pub returns-else-closes : goal.returns-else-closes
returns-else-closes c = passed _ c.args.closer c.args.at c.args.code _ c.requires.plain (sym c.closes.ensures ∙ c.if-closes.false) c.end_in.ensures.entry
