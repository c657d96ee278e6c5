use Rattle.std.proofs.lemmas.Result.{err_from_is_err_and}
use Rattle.fix_math.proofs.PowerLemmas.{power-none, power-no_half, power-no_square, power-square, power-times}
use Rattle.fix_math.proofs.powers.+power.Goals as goal

pub returns-then-n-eq0 : goal.returns-then-n-eq0
returns-then-n-eq0 t c = record { value = power-none c.args.x c.args.n c.if-n-eq0.true }

pub returns-in_err-half : goal.returns-in_err-half
returns-in_err-half t c =
    let left = err_from_is_err_and c.from_residual.result c.from_residual.ensures.1 in
    record { value = rw (left.1, left.2) (power-no_half c.args.x c.args.n c.in_err-half.field-0.0 c.if-n-eq0.false c.in_err-half.ensures.value) }

pub returns-in_err-square : goal.returns-in_err-square
returns-in_err-square t c =
    let left = err_from_is_err_and c.from_residual-in_err-square.result c.from_residual-in_err-square.ensures.1 in
    record { value = rw (left.1, left.2) (power-no_square c.args.x c.args.n c.in_ok-half.half c.in_err-square.field-0.0 c.if-n-eq0.false c.in_ok-half.ensures.value c.in_err-square.ensures.value) }

pub returns-then-n-eq0-2 : goal.returns-then-n-eq0-2
returns-then-n-eq0-2 t c = record { value = power-square c.args.x c.args.n c.in_ok-half.half c.in_ok-square.square c.if-n-eq0.false c.in_ok-half.ensures.value c.in_ok-square.ensures.value c.if-n-eq0-2.true }

pub returns-else-n-eq0-2 : goal.returns-else-n-eq0-2
returns-else-n-eq0-2 t c = record { value = power-times c.args.x c.args.n c.in_ok-half.half c.in_ok-square.square c.mul-else-n-eq0-2.result c.if-n-eq0.false c.in_ok-half.ensures.value c.in_ok-square.ensures.value c.if-n-eq0-2.false c.mul-else-n-eq0-2.ensures.value }
