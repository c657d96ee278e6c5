-- A power of ten up to the 30th fits.
use Rattle.std.proofs.Common.{arith}
use Rattle.scene_lexer.proofs.NumberLemmas.{ten_pow-le, ten_pow-pos}
use Rattle.scene_lexer.proofs.number.divided.Goals as goal

pub pow-divisor-requires : goal.pow-divisor-requires
pow-divisor-requires c = omega (arith, ten_pow-le c.args.down 30 c.requires.down)

pub overflow_add-raw : goal.overflow_add-raw
overflow_add-raw c = omega (arith, ten_pow-le c.args.down 30 c.requires.down)

pub overflow_mul-raw-3 : goal.overflow_mul-raw-3
overflow_mul-raw-3 c = omega (arith, ten_pow-le c.args.down 30 c.requires.down)

pub nonzero_div-raw : goal.nonzero_div-raw
nonzero_div-raw c = omega (arith, ten_pow-pos c.args.down)
