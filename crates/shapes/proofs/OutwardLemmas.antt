-- Equal parts make equal directions out of a solid.
use Rattle.std.proofs.Common.{ℕ, ℤ, ◌≡◌, refl}
use Rattle.fix_math.specs.declared.fix.V3.{V3}
use Rattle.fix_math.specs.Matrices.{vector}
use Rattle.shapes.specs.declared.axes.Form.{Form}
use Rattle.shapes.specs.Growths.{form_row}
use Rattle.shapes.specs.Outward.{difference, multiple, out_of_ball, out_of_box, out_of_pipe, out_of_side}

pub form_row_is : (form : Form) (f : ℕ → ℤ) → form.x.value ≡ f 0 → form.y.value ≡ f 1 → form.z.value ≡ f 2 → form_row form ≡ vector f
form_row_is form f e g h = rw (e, g, h) refl

pub globe_outward_same : (l l' a a' b b' d d' : V3) → l ≡ l' → a ≡ a' → b ≡ b' → d ≡ d' → out_of_ball l a b d ≡ out_of_ball l' a' b' d'
globe_outward_same l l' a a' b b' d d' e f g h = rw (e, f, g, h) refl

pub cuboid_outward_same : (a a' b b' d d' : V3) (face : ℕ) → a ≡ a' → b ≡ b' → d ≡ d' → out_of_box a b d face ≡ out_of_box a' b' d' face
cuboid_outward_same a a' b b' d d' face f g h = rw (f, g, h) refl

pub tube_outward_same : (l l' a a' b b' d d' : V3) (face : ℕ) → l ≡ l' → a ≡ a' → b ≡ b' → d ≡ d'
    → out_of_side (out_of_pipe l a b) d face ≡ out_of_side (out_of_pipe l' a' b') d' face
tube_outward_same l l' a a' b b' d d' face e f g h = rw (e, f, g, h) refl

pub taper_outward_same : (l l' a a' b b' d d' k k' : V3) (m m' : ℤ) (face : ℕ) → l ≡ l' → a ≡ a' → b ≡ b' → d ≡ d' → m ≡ m' → k ≡ k'
    → out_of_side (difference (out_of_pipe l a b) (multiple m k)) d face ≡ out_of_side (difference (out_of_pipe l' a' b') (multiple m' k')) d' face
taper_outward_same l l' a a' b b' d d' k k' m m' face e f g h i j = rw (e, f, g, h, i, j) refl
