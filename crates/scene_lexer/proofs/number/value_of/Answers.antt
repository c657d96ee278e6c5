-- What each way out means, and the room for the digits.
use Rattle.std.proofs.Common.{length, arith, ap, ◌∙◌, sym, min}
use Rattle.scene_lexer.specs.Tokens.{decimal_from, size_up, size_down}
use Rattle.scene_lexer.specs.Alone.{start, value_in}
use Rattle.scene_lexer.proofs.NumberLemmas.{number_of-long, number_of-scalable, number_of-over, room_first, room_second, fraction-is, part-is}
use Rattle.scene_lexer.proofs.number.value_of.Goals as goal

pub returns-then-whole-fraction-gt-MOST_DIGITS : goal.returns-then-whole-fraction-gt-MOST_DIGITS
returns-then-whole-fraction-gt-MOST_DIGITS c =
    let fraction = fraction-is c.args.number.now _ _ _ c.rest_of-behind.ensures c.leading_digits-whole.ensures.count c.fraction_digits-fraction.ensures.value in
    sym (ap value_in (number_of-long start c.args.number.now _ _ c.leading_digits-whole.ensures.value fraction (omega arith)))

pub decimal_from-requires-clause-small : goal.decimal_from-requires-clause-small
decimal_from-requires-clause-small c =
    room_first (length c.leading_digits-whole.result.now) (length c.fraction_digits-fraction.result.now) (omega arith)

pub decimal_from-units-requires-clause-small : goal.decimal_from-units-requires-clause-small
decimal_from-units-requires-clause-small c =
    room_second c.decimal_from.result (length c.leading_digits-whole.result.now) (length c.fraction_digits-fraction.result.now) (omega arith) c.decimal_from.ensures.small

pub scaled-requires : goal.scaled-requires
scaled-requires c =
    let room = room_second c.decimal_from.result (length c.leading_digits-whole.result.now) (length c.fraction_digits-fraction.result.now) (omega arith) c.decimal_from.ensures.small in
    record { units = omega (arith, c.decimal_from-units.ensures.small) }

pub returns-in-Some : goal.returns-in-Some
returns-in-Some c =
    let s = c.args.number.now in
    let fraction = fraction-is s _ _ _ c.rest_of-behind.ensures c.leading_digits-whole.ensures.count c.fraction_digits-fraction.ensures.value in
    let part = part-is s _ _ _ _ _ _ c.rest_of-behind.ensures c.leading_digits-whole.ensures.count c.rest_of-end.ensures c.fraction_length.ensures.length c.rest_of-part.ensures c.min.ensures in
    sym (ap value_in (number_of-scalable start s _ _ c.decimal_from-units.result c.exponent_of-up.result.0 c.exponent_of-up.result.1 c.in-Some.value
    (record {
      whole = c.leading_digits-whole.ensures.value;
      fraction = fraction;
      units = c.decimal_from-units.ensures.value ∙ ap (λ n. decimal_from n c.fraction_digits-fraction.result.now) c.decimal_from.ensures.value;
    })
    (omega arith) (c.exponent_of-up.ensures.up ∙ ap (λ p. min 100 (size_up p)) part) (c.exponent_of-up.ensures.down ∙ ap (λ p. min 100 (size_down p)) part)
    c.in-Some.ensures.0 c.in-Some.ensures.1))

pub returns-in-None : goal.returns-in-None
returns-in-None c =
    let s = c.args.number.now in
    let fraction = fraction-is s _ _ _ c.rest_of-behind.ensures c.leading_digits-whole.ensures.count c.fraction_digits-fraction.ensures.value in
    let part = part-is s _ _ _ _ _ _ c.rest_of-behind.ensures c.leading_digits-whole.ensures.count c.rest_of-end.ensures c.fraction_length.ensures.length c.rest_of-part.ensures c.min.ensures in
    sym (ap value_in (number_of-over start s _ _ c.decimal_from-units.result c.exponent_of-up.result.0 c.exponent_of-up.result.1
    (record {
      whole = c.leading_digits-whole.ensures.value;
      fraction = fraction;
      units = c.decimal_from-units.ensures.value ∙ ap (λ n. decimal_from n c.fraction_digits-fraction.result.now) c.decimal_from.ensures.value;
    })
    (omega arith) (c.exponent_of-up.ensures.up ∙ ap (λ p. min 100 (size_up p)) part) (c.exponent_of-up.ensures.down ∙ ap (λ p. min 100 (size_down p)) part)
    (λ h. c.in-None.ensures h)))
