use Rattle.std.proofs.Common.{zero, suc, ◌≤ℤ◌, [], ◌∷◌, arith}
use Rattle.std.specs.List.{All, AllPairs}
use Rattle.std.proofs.lemmas.Int.{ints}
use Rattle.scene_model.specs.Amounts.{IsRgbft}
use Rattle.scene_model.specs.declared.texture.Entry.{Entry}
use Rattle.pigment.proofs.tests.three.Goals as goal

have_colours : (a b c : Entry) → IsRgbft a.colour → IsRgbft b.colour → IsRgbft c.colour → All (λ entry. IsRgbft entry.colour) (a ∷ b ∷ c ∷ [])
have_colours a b c x y z zero d lt = x
have_colours a b c x y z (suc zero) d lt = y
have_colours a b c x y z (suc (suc zero)) d lt = z
have_colours a b c x y z (suc (suc (suc k))) d lt = absurd (omega arith)

ascend : (a b c : Entry) → a.at ≤ℤ b.at → b.at ≤ℤ c.at → AllPairs (λ low high. low.at ≤ℤ high.at) (a ∷ b ∷ c ∷ [])
ascend a b c x y zero zero d low high = absurd (omega arith)
ascend a b c x y zero (suc zero) d low high = x
ascend a b c x y zero (suc (suc zero)) d low high = omega (arith, ints)
ascend a b c x y zero (suc (suc (suc j))) d low high = absurd (omega arith)
ascend a b c x y (suc zero) zero d low high = absurd (omega arith)
ascend a b c x y (suc zero) (suc zero) d low high = absurd (omega arith)
ascend a b c x y (suc zero) (suc (suc zero)) d low high = y
ascend a b c x y (suc zero) (suc (suc (suc j))) d low high = absurd (omega arith)
ascend a b c x y (suc (suc i)) zero d low high = absurd (omega arith)
ascend a b c x y (suc (suc i)) (suc zero) d low high = absurd (omega arith)
ascend a b c x y (suc (suc i)) (suc (suc zero)) d low high = absurd (omega arith)
ascend a b c x y (suc (suc i)) (suc (suc (suc j))) d low high = absurd (omega arith)

pub returns : goal.returns
returns c = record {
  some = omega arith;
  few = omega arith;
  colours = have_colours c.entry.result c.entry-2.result c.entry-3.result c.entry.ensures.colour c.entry-2.ensures.colour c.entry-3.ensures.colour;
  ascending = ascend c.entry.result c.entry-2.result c.entry-3.result
      (omega (arith, ints, c.entry.ensures.at, c.entry-2.ensures.at, c.at_least-second.ensures, c.ranges.first, c.at_least-second.type_inv))
      (omega (arith, ints, c.entry-2.ensures.at, c.entry-3.ensures.at, c.at_least-third.ensures, c.at_least-second.type_inv, c.at_least-third.type_inv));
}
