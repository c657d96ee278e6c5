-- The size of the cosine between two directions, and of what is joined of them.
use Rattle.std.proofs.Common.{ℤ, pos, neg_ℤ, ◌+ℤ◌, ◌*ℤ◌, ◌≤◌, ◌<◌, ◌^◌, ◌*◌, unsigned_abs, arith}
use Rattle.std.proofs.lemmas.Int.{ints}
use Rattle.fix_math.specs.declared.fix.V3.{V3}
use Rattle.fix_math.specs.Floor.{rnd_within}
use Rattle.fix_math.specs.Matrices.{along, row_of, IsVectorWithin}
use Rattle.fix_math.specs.MatrixLaws.{row_dot_within}
use Rattle.fix_math.specs.Numbers.{rnd}
use Rattle.fix_math.specs.Order.{mul-within}
use Rattle.fix_math.specs.Vectors.{dot_of, rounded_dot_of}

dot_small : (v w : V3) → IsVectorWithin 65537 v → IsVectorWithin 65537 w → unsigned_abs (dot_of v w) ≤ 3 * (65537 * 65537)
dot_small v w h k = row_dot_within (row_of (along v)) (row_of (along w)) 65537 65537 h k

pub cosine_small : (v w : V3) → IsVectorWithin 65537 v → IsVectorWithin 65537 w → unsigned_abs (rounded_dot_of v w) ≤ 2 ^ 18
cosine_small v w h k = rnd_within (dot_of v w) 65536 (2 ^ 18) (omega arith) (omega (arith, dot_small v w h k))

pub opposite_small : (v w : V3) → IsVectorWithin 65537 v → IsVectorWithin 65537 w → unsigned_abs (rnd (neg_ℤ (dot_of v w)) (pos 65536)) ≤ 2 ^ 18
opposite_small v w h k = rnd_within (neg_ℤ (dot_of v w)) 65536 (2 ^ 18) (omega arith) (omega (arith, ints, dot_small v w h k))

pub joined_small : (eta d side n : ℤ) → unsigned_abs eta ≤ 2 ^ 20 → unsigned_abs d ≤ 65537 → unsigned_abs side ≤ 2 ^ 45 → unsigned_abs n ≤ 65536 → unsigned_abs (rnd (eta *ℤ d +ℤ side *ℤ n) (pos 65536)) < 2 ^ 47
joined_small eta d side n a b c e =
    let within : unsigned_abs (rnd (eta *ℤ d +ℤ side *ℤ n) (pos 65536)) ≤ 2 ^ 46 =
    rnd_within (eta *ℤ d +ℤ side *ℤ n) 65536 (2 ^ 46) (omega arith)
    (omega (arith, ints, mul-within eta d (2 ^ 20) 65537 a b, mul-within side n (2 ^ 45) 65536 c e)) in
    omega arith
