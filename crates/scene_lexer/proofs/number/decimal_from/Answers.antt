-- Each step multiplies by ten, and the whole fits 30 digits.
use Rattle.std.proofs.Common.{◌+◌, ◌-◌, ◌*◌, get_or, length, arith, ap, ◌∙◌, sym}
use Rattle.std.proofs.lemmas.List.Sums.{fold_more}
use Rattle.scene_lexer.proofs.NumberLemmas.{digit_at, digit_more, digit_room}
use Rattle.scene_lexer.proofs.number.decimal_from.Goals as goal

pub overflow_mul-value : goal.overflow_mul-value
overflow_mul-value c =
    let i = c.loop-byte.byte-index in
    let more = digit_more c.loop-byte.value 0 c.args.start i c.loop-byte.invariant.small (omega arith) in
    let room = digit_room c.args.start i (length c.args.digits.now) (omega arith) c.requires.small in
    omega arith

pub overflow_add-value : goal.overflow_add-value
overflow_add-value c =
    let i = c.loop-byte.byte-index in
    let at = digit_at c.args.digits.now i c.requires.digits (omega arith) in
    let more = digit_more c.loop-byte.value (get_or c.args.digits.now i 0 - 48) c.args.start i c.loop-byte.invariant.small (omega arith) in
    let room = digit_room c.args.start i (length c.args.digits.now) (omega arith) c.requires.small in
    omega arith

pub loop-byte-preserved : goal.loop-byte-preserved
loop-byte-preserved c =
    let i = c.loop-byte.byte-index in
    let at = digit_at c.args.digits.now i c.requires.digits (omega arith) in
    record {
      read = ap (λ v. v * 10 + (get_or c.args.digits.now i 0 - 48)) c.loop-byte.invariant.read ∙ sym (fold_more (λ m b. m * 10 + (b - 48)) c.args.start c.args.digits.now i 0 (omega arith));
      small = digit_more c.loop-byte.value (get_or c.args.digits.now i 0 - 48) c.args.start i c.loop-byte.invariant.small (omega arith);
    }
