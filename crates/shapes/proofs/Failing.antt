-- The first of a solid's faces that doesn't hold, by cases.
use lib.Signed.{le_z}
use Rattle.std.proofs.Common.{ℤ, ◌<ℤ◌, ◌≡◌, ◌↔◌, refl, arith, Bool, true, false, Some, None, [], ◌∷◌, int_le}
use Rattle.std.proofs.lemmas.Int.{ints}
use Rattle.shapes.proofs.Told.{same_test, stretches_test}
use Rattle.shapes.specs.Faces.{first_failing}
use Rattle.shapes.specs.Lines.{IsWithin, IsInStretches, is_in_stretches}
use Rattle.shapes.specs.declared.parts.Stretches.{Stretches}

pub le_false : (a b : ℤ) → b <ℤ a → int_le a b ≡ false
le_false a b h = grind (arith, ints)

-- whether 0 is in a shell of the span of 0 alone
pub shell_point : (s : Stretches) (face : Bool) → IsInStretches s 0 ↔ (IsWithin (record { from = 0; end = 1 }) 0 × (face ≡ true)) → is_in_stretches s 0 ≡ face
shell_point s face f =
    let m = stretches_test s 0 in
    same_test _ _ (λ h. (f.0 (m.0 h)).1) (λ h. m.1 (f.1 (record { low = omega arith; high = omega arith }, h)))

pub failing_1_of_3 : (a b c : Bool) → a ≡ true → b ≡ false → Some 1 ≡ first_failing (a ∷ b ∷ c ∷ [])
failing_1_of_3 a b c e f = rw (e, f) refl

pub failing_2_of_3 : (a b c : Bool) → a ≡ true → b ≡ true → c ≡ false → Some 2 ≡ first_failing (a ∷ b ∷ c ∷ [])
failing_2_of_3 a b c e f g = rw (e, f, g) refl

pub failing_0 : (a b c d i j : Bool) → a ≡ false → Some 0 ≡ first_failing (a ∷ b ∷ c ∷ d ∷ i ∷ j ∷ [])
failing_0 a b c d i j e = rw e refl

pub failing_1 : (a b c d i j : Bool) → a ≡ true → b ≡ false → Some 1 ≡ first_failing (a ∷ b ∷ c ∷ d ∷ i ∷ j ∷ [])
failing_1 a b c d i j e f = rw (e, f) refl

pub failing_2 : (a b c d i j : Bool) → a ≡ true → b ≡ true → c ≡ false → Some 2 ≡ first_failing (a ∷ b ∷ c ∷ d ∷ i ∷ j ∷ [])
failing_2 a b c d i j e f g = rw (e, f, g) refl

pub failing_3 : (a b c d i j : Bool) → a ≡ true → b ≡ true → c ≡ true → d ≡ false → Some 3 ≡ first_failing (a ∷ b ∷ c ∷ d ∷ i ∷ j ∷ [])
failing_3 a b c d i j e f g h = rw (e, f, g, h) refl

pub failing_4 : (a b c d i j : Bool) → a ≡ true → b ≡ true → c ≡ true → d ≡ true → i ≡ false → Some 4 ≡ first_failing (a ∷ b ∷ c ∷ d ∷ i ∷ j ∷ [])
failing_4 a b c d i j e f g h k = rw (e, f, g, h, k) refl

pub failing_5 : (a b c d i j : Bool) → a ≡ true → b ≡ true → c ≡ true → d ≡ true → i ≡ true → j ≡ false → Some 5 ≡ first_failing (a ∷ b ∷ c ∷ d ∷ i ∷ j ∷ [])
failing_5 a b c d i j e f g h k l = rw (e, f, g, h, k, l) refl

pub none_of_1 : (a : Bool) → a ≡ true → None ≡ first_failing (a ∷ [])
none_of_1 a e = rw e refl

pub failing_of_1 : (a : Bool) → a ≡ false → Some 0 ≡ first_failing (a ∷ [])
failing_of_1 a e = rw e refl

pub none_of_3 : (a b c : Bool) → a ≡ true → b ≡ true → c ≡ true → None ≡ first_failing (a ∷ b ∷ c ∷ [])
none_of_3 a b c e f g = rw (e, f, g) refl

pub none_of_6 : (a b c d i j : Bool) → a ≡ true → b ≡ true → c ≡ true → d ≡ true → i ≡ true → j ≡ true → None ≡ first_failing (a ∷ b ∷ c ∷ d ∷ i ∷ j ∷ [])
none_of_6 a b c d i j e f g h k l = rw (e, f, g, h, k, l) refl
