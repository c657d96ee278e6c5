use Rattle.std.proofs.Common.{rules, arith, ◌≡◌, pos, ◌^◌, ◌-◌, ◌-ℤ◌, ◌*ℤ◌, FitsSigned, w64, ◌≤◌, unsigned_abs}
use Rattle.std.proofs.lemmas.Int.{to_z-of_z, fits_signed_from_abs}
use mir.Syntax.{w128}
use Rattle.fix_math.specs.Numbers.{rnd}
use Rattle.shapes.proofs.MakingLemmas.{slope_small, bottom_positive}
use Rattle.shapes.proofs.making.slope.Goals as goal

pub rounded-quotient-requires-clause-divisor_positive : goal.rounded-quotient-requires-clause-divisor_positive
rounded-quotient-requires-clause-divisor_positive c =
    let g : FitsSigned w128 c.lengthened-divisor.result.value = search rules in
    simp to_z-of_z (rw c.lengthened-divisor.ensures (bottom_positive c.args.h (48 - c.args.e) c.requires.some))

pub overflow_cast-result : goal.overflow_cast-result
overflow_cast-result c =
    let r = c.requires in
    let q : FitsSigned w128 c.rounded-quotient.result = record { sfits = c.rounded-quotient.type_inv } in
    let f : FitsSigned w128 c.grown-growth.result.value = search rules in
    let g : FitsSigned w128 c.lengthened-divisor.result.value = search rules in
    let e : c.rounded-quotient.result ≡ rnd ((c.args.rb -ℤ c.args.ra) *ℤ c.args.along.value) (c.args.h *ℤ pos (2 ^ (48 - c.args.e))) = rw (← c.grown-growth.ensures, ← c.lengthened-divisor.ensures) (simp to_z-of_z at c.rounded-quotient.ensures.value) in
    let m : unsigned_abs c.rounded-quotient.result ≤ 2 ^ 59 = rw e (slope_small c.args.ra c.args.rb c.args.along.value c.args.h c.args.e r.ra_low r.rb_low r.ra_room r.rb_room r.along r.some (omega (arith, r.e))) in
    let w : FitsSigned w64 c.rounded-quotient.result = fits_signed_from_abs w64 _ (omega (arith, m)) in
    simp to_z-of_z w

pub invariant_of-result : goal.invariant_of-result
invariant_of-result c =
    let r = c.requires in
    let q : FitsSigned w128 c.rounded-quotient.result = record { sfits = c.rounded-quotient.type_inv } in
    let f : FitsSigned w128 c.grown-growth.result.value = search rules in
    let g : FitsSigned w128 c.lengthened-divisor.result.value = search rules in
    let e : c.rounded-quotient.result ≡ rnd ((c.args.rb -ℤ c.args.ra) *ℤ c.args.along.value) (c.args.h *ℤ pos (2 ^ (48 - c.args.e))) = rw (← c.grown-growth.ensures, ← c.lengthened-divisor.ensures) (simp to_z-of_z at c.rounded-quotient.ensures.value) in
    let m : unsigned_abs c.rounded-quotient.result ≤ 2 ^ 59 = rw e (slope_small c.args.ra c.args.rb c.args.along.value c.args.h c.args.e r.ra_low r.rb_low r.ra_room r.rb_room r.along r.some (omega (arith, r.e))) in
    let w : FitsSigned w64 c.rounded-quotient.result = fits_signed_from_abs w64 _ (omega (arith, m)) in
    simp to_z-of_z (record { small = m })

pub returns : goal.returns
returns c =
    let r = c.requires in
    let q : FitsSigned w128 c.rounded-quotient.result = record { sfits = c.rounded-quotient.type_inv } in
    let f : FitsSigned w128 c.grown-growth.result.value = search rules in
    let g : FitsSigned w128 c.lengthened-divisor.result.value = search rules in
    let e : c.rounded-quotient.result ≡ rnd ((c.args.rb -ℤ c.args.ra) *ℤ c.args.along.value) (c.args.h *ℤ pos (2 ^ (48 - c.args.e))) = rw (← c.grown-growth.ensures, ← c.lengthened-divisor.ensures) (simp to_z-of_z at c.rounded-quotient.ensures.value) in
    let m : unsigned_abs c.rounded-quotient.result ≤ 2 ^ 59 = rw e (slope_small c.args.ra c.args.rb c.args.along.value c.args.h c.args.e r.ra_low r.rb_low r.ra_room r.rb_room r.along r.some (omega (arith, r.e))) in
    let w : FitsSigned w64 c.rounded-quotient.result = fits_signed_from_abs w64 _ (omega (arith, m)) in
    simp to_z-of_z e
