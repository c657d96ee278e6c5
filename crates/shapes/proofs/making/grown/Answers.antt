use Rattle.std.proofs.Common.{rules, arith, ◌-ℤ◌, ◌*ℤ◌, FitsSigned, refl}
use Rattle.std.proofs.lemmas.Int.{ints, to_z-of_z, fits_signed_from_abs}
use mir.Syntax.{w128}
use Rattle.shapes.proofs.MakingLemmas.{slope_top}
use Rattle.shapes.proofs.making.grown.Goals as goal

pub invariant_of-result : goal.invariant_of-result
invariant_of-result c =
    let f : FitsSigned w128 c.wide.result = record { sfits = c.wide.type_inv } in
    let g : FitsSigned w128 c.wide-2.result = record { sfits = c.wide-2.type_inv } in
    let w : FitsSigned w128 c.args.along.value = search rules in
    let m = slope_top c.args.ra c.args.rb c.args.along.value c.requires.ra_small c.requires.rb_small c.requires.along in
    let d : FitsSigned w128 (c.wide.result -ℤ c.wide-2.result) = rw (c.wide.ensures.value, c.wide-2.ensures.value) (fits_signed_from_abs w128 _ (omega (arith, ints, c.requires.ra_small, c.requires.rb_small))) in
    let p : FitsSigned w128 ((c.wide.result -ℤ c.wide-2.result) *ℤ c.args.along.value) = rw (c.wide.ensures.value, c.wide-2.ensures.value) (fits_signed_from_abs w128 _ (omega (arith, m))) in
    simp to_z-of_z (rw (c.wide.ensures.value, c.wide-2.ensures.value) (record { small = m }))

pub returns : goal.returns
returns c =
    let f : FitsSigned w128 c.wide.result = record { sfits = c.wide.type_inv } in
    let g : FitsSigned w128 c.wide-2.result = record { sfits = c.wide-2.type_inv } in
    let w : FitsSigned w128 c.args.along.value = search rules in
    let m = slope_top c.args.ra c.args.rb c.args.along.value c.requires.ra_small c.requires.rb_small c.requires.along in
    let d : FitsSigned w128 (c.wide.result -ℤ c.wide-2.result) = rw (c.wide.ensures.value, c.wide-2.ensures.value) (fits_signed_from_abs w128 _ (omega (arith, ints, c.requires.ra_small, c.requires.rb_small))) in
    let p : FitsSigned w128 ((c.wide.result -ℤ c.wide-2.result) *ℤ c.args.along.value) = rw (c.wide.ensures.value, c.wide-2.ensures.value) (fits_signed_from_abs w128 _ (omega (arith, m))) in
    simp to_z-of_z (rw (c.wide.ensures.value, c.wide-2.ensures.value) refl)
