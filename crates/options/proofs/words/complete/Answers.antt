-- A plan that the words ask for is in its ranges.
use Rattle.std.proofs.Common.{length, sym, ap, ◌∙◌}
use Rattle.std.specs.Prelude.{◌==◌}
use Rattle.options.proofs.Ranges.{in_ranges}
use Rattle.options.proofs.words.complete.Goals as goal

pub returns-clause-range : goal.returns-clause-range
returns-clause-range c =
    in_ranges c.args.draft c.in-Ok.plan c.requires (ap (λ l. length l == 0) (sym c.bytes.ensures) ∙ sym c.is_empty.ensures ∙ c.if-is_empty.false)
    (sym c.is_in_range.ensures ∙ c.if-not-is_in_range.false) c.in-Ok.ensures
