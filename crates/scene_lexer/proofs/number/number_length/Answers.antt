-- The parts of the longest number, or none.
use Rattle.std.proofs.Common.{drop, arith, sym, ap}
use Rattle.scene_lexer.specs.Spellings.{fraction_length}
use Rattle.scene_lexer.proofs.NumberLength.{longest-no_digits, number_parts-are}
use Rattle.scene_lexer.proofs.number.number_length.Goals as goal

pub returns-then-whole-fraction-eq0-clause-length : goal.returns-then-whole-fraction-eq0-clause-length
returns-then-whole-fraction-eq0-clause-length c =
    sym (longest-no_digits c.args.text.now (omega (
      arith,
      c.digit_count-whole.ensures.count,
      c.fraction_length-fraction.ensures.length,
      ap fraction_length c.rest_of-behind.ensures,
      ap (λ n. fraction_length (drop n c.args.text.now)) c.digit_count-whole.ensures.count,
    )))

pub returns-clause-length : goal.returns-clause-length
returns-clause-length c =
    number_parts-are c.args.text.now _ _ _ _ _ c.digit_count-whole.ensures.count c.rest_of-behind.ensures c.fraction_length-fraction.ensures.length c.rest_of.ensures c.exponent_length.ensures.length (omega arith)
