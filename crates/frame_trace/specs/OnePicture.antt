-- A view has one picture at most, and views that show the same have the same picture.
use Rattle.std.specs.Prelude.{◌≡◌, ℕ, zero, suc, ◌+◌, ◌*◌, ℤ, pos, ◌≤ℤ◌, ◌<ℤ◌, ◌+ℤ◌, Option, Some, None, List, [], ◌++◌, refl}
use Rattle.std.proofs.Common.{sym, ◌∙◌, ap, subst, arith}
use Rattle.std.proofs.lemmas.Int.{ints}
use Rattle.finish_shade.specs.Shades.{IsShade}
use Rattle.fix_math.specs.Matrices.{component, row_of}
use Rattle.fix_math.specs.Numbers.{rnd}
use Rattle.frame_trace.specs.Pictures.{View, cut, IsSeen, IsPlain, IsPart, IsSum, IsFine, IsNeighbour, difference, IsEven, IsUneven, IsSmooth, IsColour, samples, IsPixel, IsRow, IsRectangle, IsPicture}
use Rattle.frame_trace.specs.PixelRays.{pixel_ray_of, sub_ray_of}
use Rattle.frame_trace.specs.declared.format.Antialias.{Antialias}
use Rattle.frame_trace.specs.declared.format.Format.{Format}
use Rattle.scene_model.specs.declared.camera.Camera.{Camera}
use Rattle.shapes.specs.declared.ray.Ray.{Ray}

-- two views of one format and one camera, in which each ray shows one colour at most
pub record ShowAlike (v w : View) : Type 0 where
  pub format : v.format ≡ w.format
  pub camera : v.scene.camera ≡ w.scene.camera
  pub shades : (ray : Ray) (a b : List ℤ) → IsShade v.surfaces v.scene v.scene.levels ray (pos 65536) a
      → IsShade w.surfaces w.scene w.scene.levels ray (pos 65536) b → a ≡ b

alike_sym : (v w : View) → ShowAlike v w → ShowAlike w v
alike_sym v w alike = record { format = sym alike.format; camera = sym alike.camera; shades = λ ray a b x y. sym (alike.shades ray b a y x) }

-- ---- colours

one_seen : (v w : View) → ShowAlike v w → (ray : Ray) (a b : List ℤ) → IsSeen v ray a → IsSeen w ray b → a ≡ b
one_seen v w alike ray a b x y = x.is ∙ (ap cut (alike.shades ray x.light y.light x.shade y.shade) ∙ sym y.is)

one_plain : (v w : View) → ShowAlike v w → (column row : ℕ) (a b : List ℤ) → IsPlain v column row a → IsPlain w column row b → a ≡ b
one_plain v w alike column row a b x y =
    let C : Camera → Type 0 = λ c. IsSeen w (pixel_ray_of c w.format.width w.format.height column row) b in
    let F : Format → Type 0 = λ f. IsSeen w (pixel_ray_of v.scene.camera f.width f.height column row) b in
    one_seen v w alike (pixel_ray_of v.scene.camera v.format.width v.format.height column row) a b x (subst F (sym alike.format) (subst C (sym alike.camera) y))

one_part : (v w : View) → ShowAlike v w → (n column row j k : ℕ) (a b : List ℤ) → IsPart v n column row j k a → IsPart w n column row j k b → a ≡ b
one_part v w alike n column row j k a b x y =
    let C : Camera → Type 0 = λ c. IsSeen w (sub_ray_of c w.format.width w.format.height column row n j k) b in
    let F : Format → Type 0 = λ f. IsSeen w (sub_ray_of v.scene.camera f.width f.height column row n j k) b in
    one_seen v w alike (sub_ray_of v.scene.camera v.format.width v.format.height column row n j k) a b x (subst F (sym alike.format) (subst C (sym alike.camera) y))

-- a sum without its last term
record Summed (IsTerm : ℕ → List ℤ → Type 0) (n : ℕ) (all : List ℤ) : Type 0 where
  sum : List ℤ
  colour : List ℤ
  front : IsSum IsTerm n sum
  term : IsTerm n colour
  is : all ≡ row_of (λ i. component sum i +ℤ component colour i)

sum_none : (IsTerm : ℕ → List ℤ → Type 0) (all : List ℤ) → IsSum IsTerm zero all → all ≡ row_of (λ i. pos 0)
sum_none IsTerm all IsSum.none = refl

sum_more : (IsTerm : ℕ → List ℤ → Type 0) (n : ℕ) (all : List ℤ) → IsSum IsTerm (suc n) all → Summed IsTerm n all
sum_more IsTerm n all (IsSum.more m sum colour front term) = record { sum = sum; colour = colour; front = front; term = term; is = refl }

one_sum : (P Q : ℕ → List ℤ → Type 0) → ((n : ℕ) (a b : List ℤ) → P n a → Q n b → a ≡ b) → (n : ℕ) (a b : List ℤ) → IsSum P n a → IsSum Q n b → a ≡ b
one_sum P Q one zero a b x y = sum_none P a x ∙ sym (sum_none Q b y)
one_sum P Q one (suc n) a b x y =
    let s = sum_more P n a x in
    let t = sum_more Q n b y in
    s.is ∙ (ap (λ sum. row_of (λ i. component sum i +ℤ component s.colour i)) (one_sum P Q one n s.sum t.sum s.front t.front)
    ∙ (ap (λ colour. row_of (λ i. component t.sum i +ℤ component colour i)) (one n s.colour t.colour s.term t.term) ∙ sym t.is))

one_fine : (v w : View) → ShowAlike v w → (n column row : ℕ) (a b : List ℤ) → IsFine v n column row a → IsFine w n column row b → a ≡ b
one_fine v w alike n column row a b x y =
    let sums : x.sum ≡ y.sum =
    one_sum (λ k. IsSum (λ j. IsPart v n column row j k) n) (λ k. IsSum (λ j. IsPart w n column row j k) n)
    (λ k c d. one_sum (λ j. IsPart v n column row j k) (λ j. IsPart w n column row j k) (λ j. one_part v w alike n column row j k) n c d)
    n x.sum y.sum x.parts y.parts in
    x.is ∙ (ap (λ sum. row_of (λ i. rnd (component sum i) (pos (n * n)))) sums ∙ sym y.is)

-- ---- pixels

not_both : (t z : ℤ) → z ≤ℤ t → t <ℤ z → ⊥
not_both t z low high = omega (arith, ints)

not_even : (v w : View) → ShowAlike v w → (t : ℤ) (column row : ℕ) (a b : List ℤ) → IsPlain v column row a → IsPlain w column row b → IsEven v t column row a → IsUneven w t column row b → ⊥
not_even v w alike t column row a b x y even uneven =
    let N : Format → Type 0 = λ f. IsNeighbour f column row uneven.c uneven.r in
    let near = even uneven.c uneven.r (subst N (sym alike.format) uneven.beside) in
    let same : a ≡ b = one_plain v w alike column row a b x y in
    let other : near.0 ≡ uneven.other = one_plain v w alike uneven.c uneven.r near.0 uneven.other near.1 uneven.plain in
    let Q : List ℤ → Type 0 = λ c. pos (difference c near.0) ≤ℤ t in
    let R : List ℤ → Type 0 = λ c. pos (difference b c) ≤ℤ t in
    not_both t (pos (difference b uneven.other)) (subst R other (subst Q same near.2)) uneven.differs

one_smooth : (v w : View) → ShowAlike v w → (s : Antialias) (column row : ℕ) (a b : List ℤ) → IsSmooth v s column row a → IsSmooth w s column row b → a ≡ b
one_smooth v w alike s column row a b (IsSmooth.plain c some x even) (IsSmooth.plain d more y like) = one_plain v w alike column row c d x y
one_smooth v w alike s column row a b (IsSmooth.plain c some x even) (IsSmooth.uneven d f y uneven z) = absurd (not_even v w alike s.threshold column row c d x y even uneven)
one_smooth v w alike s column row a b (IsSmooth.plain c some x even) (IsSmooth.always f low z) = absurd (not_both (pos 0) s.threshold low some)
one_smooth v w alike s column row a b (IsSmooth.uneven c e x uneven y) (IsSmooth.plain d some z even) = absurd (not_even w v (alike_sym v w alike) s.threshold column row d c z x even uneven)
one_smooth v w alike s column row a b (IsSmooth.uneven c e x uneven y) (IsSmooth.uneven d f z odd u) = one_fine v w alike s.depth column row e f y u
one_smooth v w alike s column row a b (IsSmooth.uneven c e x uneven y) (IsSmooth.always f low u) = one_fine v w alike s.depth column row e f y u
one_smooth v w alike s column row a b (IsSmooth.always e low y) (IsSmooth.plain d some z even) = absurd (not_both (pos 0) s.threshold low some)
one_smooth v w alike s column row a b (IsSmooth.always e low y) (IsSmooth.uneven d f z odd u) = one_fine v w alike s.depth column row e f y u
one_smooth v w alike s column row a b (IsSmooth.always e low y) (IsSmooth.always f lower u) = one_fine v w alike s.depth column row e f y u

one_colour : (v w : View) → ShowAlike v w → (o : Option Antialias) (column row : ℕ) (a b : List ℤ) → IsColour o v column row a → IsColour o w column row b → a ≡ b
one_colour v w alike None column row a b x y = one_plain v w alike column row a b x y
one_colour v w alike (Some s) column row a b x y = one_smooth v w alike s column row a b x y

pub one_pixel : (v w : View) → ShowAlike v w → (column row : ℕ) (a b : List ℕ) → IsPixel v column row a → IsPixel w column row b → a ≡ b
one_pixel v w alike column row a b x y =
    let C : Format → Type 0 = λ f. IsColour f.antialias w column row y.colour in
    let same : x.colour ≡ y.colour = one_colour v w alike v.format.antialias column row x.colour y.colour x.shown (subst C (sym alike.format) y.shown) in
    x.are ∙ (ap (λ c. samples v.format.bits c) same ∙ (ap (λ (f : Format). samples f.bits y.colour) alike.format ∙ sym y.are))

-- ---- rows

-- a row without its last part
pub record Joined (IsItem : ℕ → List ℕ → Type 0) (first n : ℕ) (all : List ℕ) : Type 0 where
  pub front : List ℕ
  pub last : List ℕ
  pub row : IsRow IsItem first n front
  pub item : IsItem (first + n) last
  pub is : all ≡ front ++ last

pub row_none : (IsItem : ℕ → List ℕ → Type 0) (first : ℕ) (all : List ℕ) → IsRow IsItem first zero all → all ≡ []
row_none IsItem first all IsRow.none = refl

pub row_more : (IsItem : ℕ → List ℕ → Type 0) (first n : ℕ) (all : List ℕ) → IsRow IsItem first (suc n) all → Joined IsItem first n all
row_more IsItem first n all (IsRow.more m front last row item) = record { front = front; last = last; row = row; item = item; is = refl }

one_row : (P Q : ℕ → List ℕ → Type 0) → ((i : ℕ) (a b : List ℕ) → P i a → Q i b → a ≡ b) → (first n : ℕ) (a b : List ℕ) → IsRow P first n a → IsRow Q first n b → a ≡ b
one_row P Q one first zero a b x y = row_none P first a x ∙ sym (row_none Q first b y)
one_row P Q one first (suc n) a b x y =
    let s = row_more P first n a x in
    let t = row_more Q first n b y in
    s.is ∙ (ap (λ front. front ++ s.last) (one_row P Q one first n s.front t.front s.row t.row) ∙ (ap (λ last. t.front ++ last) (one (first + n) s.last t.last s.item t.item) ∙ sym t.is))

pub one_rectangle : (v w : View) → ShowAlike v w → (x y width height : ℕ) (a b : List ℕ) → IsRectangle v x y width height a → IsRectangle w x y width height b → a ≡ b
one_rectangle v w alike x y width height a b =
    one_row (λ row. IsRow (λ column. IsPixel v column row) x width) (λ row. IsRow (λ column. IsPixel w column row) x width)
    (λ row c d. one_row (λ column. IsPixel v column row) (λ column. IsPixel w column row) (λ column. one_pixel v w alike column row) x width c d)
    y height a b

-- scenes that show the same have the same picture
pub one_picture : (v w : View) → ShowAlike v w → (a b : List ℕ) → IsPicture v a → IsPicture w b → a ≡ b
one_picture v w alike a b x y =
    let F : Format → Type 0 = λ f. IsRectangle w 0 0 f.width f.height b in
    one_rectangle v w alike 0 0 v.format.width v.format.height a b x (subst F (sym alike.format) y)
