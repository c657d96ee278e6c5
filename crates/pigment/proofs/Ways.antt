-- A part of a rise is between nothing and the whole, so a number on the way from one amount to another is an amount.
use Rattle.std.proofs.Common.{ℕ, ℤ, pos, negsuc, neg_ℤ, ◌≤ℤ◌, ◌<ℤ◌, ◌+ℤ◌, ◌-ℤ◌, ◌*ℤ◌, ◌≤◌, unsigned_abs, arith}
use Rattle.std.proofs.lemmas.Int.{ints, by_lt_z}
use Rattle.fix_math.specs.Floor.{rnd_monotone, rnd_exact, rnd_within}
use Rattle.fix_math.specs.Numbers.{rnd}
use Rattle.fix_math.specs.Order.{mul-le_left, mul-le_right, mul-within}
use Rattle.fix_math.specs.Ring.{mul-neg_left}
use Rattle.scene_model.specs.Amounts.{IsAmount}
use Rattle.pigment.specs.Maps.{part_way}

-- what is rounded stays between two multiples of the divisor
rounded_between : (low a high d : ℤ) → pos 0 <ℤ d → (low *ℤ d) ≤ℤ a → a ≤ℤ (high *ℤ d) → (low ≤ℤ rnd a d) × (rnd a d ≤ℤ high)
rounded_between low a high d some h k = (
  omega (arith, ints, rnd_monotone (low *ℤ d) a d some h, rnd_exact low d some),
  omega (arith, ints, rnd_monotone a (high *ℤ d) d some k, rnd_exact high d some),
)

climbs : (rise done whole : ℤ) → pos 0 ≤ℤ done → done <ℤ whole → pos 0 ≤ℤ rise → (pos 0 ≤ℤ rnd (rise *ℤ done) whole) × (rnd (rise *ℤ done) whole ≤ℤ rise)
climbs rise done whole some within up =
    rounded_between (pos 0) (rise *ℤ done) rise whole (omega (arith, ints))
    (omega (arith, ints, mul-le_left (pos 0) done rise up some))
    (mul-le_left done whole rise up (omega (arith, ints)))

falls : (rise done whole : ℤ) → pos 0 ≤ℤ done → done <ℤ whole → rise ≤ℤ pos 0 → (rise ≤ℤ rnd (rise *ℤ done) whole) × (rnd (rise *ℤ done) whole ≤ℤ pos 0)
falls rise done whole some within down =
    rounded_between rise (rise *ℤ done) (pos 0) whole (omega (arith, ints))
    (omega (arith, ints, mul-neg_left rise done, mul-neg_left rise whole, mul-le_left done whole (neg_ℤ rise) (omega (arith, ints)) (omega (arith, ints))))
    (omega (arith, ints, mul-le_right rise (pos 0) done some down))

risen : (from to r : ℤ) (most : ℕ) → IsAmount most from → IsAmount most to → pos 0 ≤ℤ r → r ≤ℤ (to -ℤ from) → IsAmount most (from +ℤ r)
risen from to r most h k low high =
    let a = h.low in let b = k.high in let c = k.low in
    record { low = omega (arith, ints); high = omega (arith, ints) }

fallen : (from to r : ℤ) (most : ℕ) → IsAmount most from → IsAmount most to → (to -ℤ from) ≤ℤ r → r ≤ℤ pos 0 → IsAmount most (from +ℤ r)
fallen from to r most h k low high =
    let a = h.high in let b = h.low in let c = k.low in
    record { low = omega (arith, ints); high = omega (arith, ints) }

pub part_way_amount : (from to done whole : ℤ) (most : ℕ) → IsAmount most from → IsAmount most to → pos 0 ≤ℤ done → done <ℤ whole → IsAmount most (part_way from to done whole)
part_way_amount from to done whole most h k some within =
    by_lt_z to from
    (λ down. let f = falls (to -ℤ from) done whole some within (omega (arith, ints)) in fallen from to (rnd ((to -ℤ from) *ℤ done) whole) most h k f.0 f.1)
    (λ up. let c = climbs (to -ℤ from) done whole some within (omega (arith, ints)) in risen from to (rnd ((to -ℤ from) *ℤ done) whole) most h k c.0 c.1)

pub climb_small : (rise done whole : ℤ) (most : ℕ) → pos 0 ≤ℤ done → done <ℤ whole → unsigned_abs rise ≤ most → unsigned_abs (rnd (rise *ℤ done) whole) ≤ most
climb_small rise done (pos k) most some within small =
    rnd_within (rise *ℤ done) k most (omega (arith, ints)) (mul-within rise done most k small (omega (arith, ints)))
climb_small rise done (negsuc k) most some within small = absurd (omega (arith, ints))
