-- A quadric's ten terms, gathered by the coordinates.
use Rattle.std.proofs.Common.{ℤ, ◌+ℤ◌, ◌*ℤ◌, ◌≡◌, arith}
use Rattle.fix_math.specs.Ring.{diff-parts, diff-same, ring_rules}

along : (b p q r x y z u : ℤ) → (b +ℤ p *ℤ x +ℤ q *ℤ y +ℤ r *ℤ z) *ℤ u ≡ p *ℤ (x *ℤ u) +ℤ q *ℤ (y *ℤ u) +ℤ r *ℤ (z *ℤ u) +ℤ b *ℤ u
along b p q r x y z u = rw (diff-parts b, diff-parts p, diff-parts q, diff-parts r, diff-parts x, diff-parts y, diff-parts z, diff-parts u) (simp ring_rules (diff-same _ _ _ _ (omega arith)))

along_two : (b q r y z u : ℤ) → (b +ℤ q *ℤ y +ℤ r *ℤ z) *ℤ u ≡ q *ℤ (y *ℤ u) +ℤ r *ℤ (z *ℤ u) +ℤ b *ℤ u
along_two b q r y z u = rw (diff-parts b, diff-parts q, diff-parts r, diff-parts y, diff-parts z, diff-parts u) (simp ring_rules (diff-same _ _ _ _ (omega arith)))

along_one : (b r z u : ℤ) → (b +ℤ r *ℤ z) *ℤ u ≡ r *ℤ (z *ℤ u) +ℤ b *ℤ u
along_one b r z u = rw (diff-parts b, diff-parts r, diff-parts z, diff-parts u) (simp ring_rules (diff-same _ _ _ _ (omega arith)))

exchanged : (x y : ℤ) → y *ℤ x ≡ x *ℤ y
exchanged x y = rw (diff-parts x, diff-parts y) (simp ring_rules (diff-same _ _ _ _ (omega arith)))

arranged : (a b c d e f g h i j : ℤ) → (a +ℤ d +ℤ e +ℤ g) +ℤ (b +ℤ f +ℤ h) +ℤ (c +ℤ i) +ℤ j ≡ a +ℤ b +ℤ c +ℤ d +ℤ e +ℤ f +ℤ g +ℤ h +ℤ i +ℤ j
arranged a b c d e f g h i j = rw (diff-parts a, diff-parts b, diff-parts c, diff-parts d, diff-parts e, diff-parts f, diff-parts g, diff-parts h, diff-parts i, diff-parts j) (simp ring_rules (diff-same _ _ _ _ (omega arith)))

pub gathered : (xx yy zz xy xz yz bx by bz c x y z : ℤ)
    → (bx +ℤ xx *ℤ x +ℤ xy *ℤ y +ℤ xz *ℤ z) *ℤ x +ℤ (by +ℤ yy *ℤ y +ℤ yz *ℤ z) *ℤ y +ℤ (bz +ℤ zz *ℤ z) *ℤ z +ℤ c
    ≡ xx *ℤ (x *ℤ x) +ℤ yy *ℤ (y *ℤ y) +ℤ zz *ℤ (z *ℤ z) +ℤ xy *ℤ (x *ℤ y) +ℤ xz *ℤ (x *ℤ z) +ℤ yz *ℤ (y *ℤ z) +ℤ bx *ℤ x +ℤ by *ℤ y +ℤ bz *ℤ z +ℤ c
gathered xx yy zz xy xz yz bx by bz c x y z =
    rw (along bx xx xy xz x y z x, along_two by yy yz y z y, along_one bz zz z z, exchanged x y, exchanged x z, exchanged y z)
    (arranged (xx *ℤ (x *ℤ x)) (yy *ℤ (y *ℤ y)) (zz *ℤ (z *ℤ z)) (xy *ℤ (x *ℤ y)) (xz *ℤ (x *ℤ z)) (yz *ℤ (y *ℤ z)) (bx *ℤ x) (by *ℤ y) (bz *ℤ z) c)
