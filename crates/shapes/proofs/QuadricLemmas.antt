-- A quadric's coefficients: their sizes, and that the fewest digits are taken.
use Rattle.std.proofs.Common.{ℕ, ℤ, pos, ◌*◌, ◌<◌, ◌≤◌, ◌^◌, ◌*ℤ◌, ◌≡◌, ◌∙◌, refl, ap, subst, sym, arith, unsigned_abs, Bool, true, false, List, length, ⊎_elim, ◌&&◌}
use Rattle.std.specs.List.{All}
use Rattle.std.proofs.lemmas.Bool.{cases_lt}
use Rattle.std.proofs.lemmas.List.{get_or_past}
use Rattle.fix_math.specs.declared.fix.V3.{V3}
use Rattle.fix_math.specs.Floor.{rnd_within}
use Rattle.fix_math.specs.Least.{least-is}
use Rattle.fix_math.specs.Matrices.{component}
use Rattle.fix_math.specs.Numbers.{shortened}
use Rattle.fix_math.specs.Order.{mul-within}
use Rattle.xform.specs.declared.transform.Xform.{Xform}
use Rattle.shapes.specs.Bodies.{terms_at}
use Rattle.shapes.specs.Faces.{shifted, square_term, product_term, linear_term, coefficients, are_small, quadric_of, quadric_at}
use Rattle.shapes.specs.Growths.{terms_gradient}
use Rattle.shapes.specs.Outward.{gradient}
use Rattle.shapes.specs.Quadrics.{is_term_short, IsTermShort, are_terms_small}
use Rattle.shapes.specs.declared.coefficients.LongTerms.{LongTerms}
use Rattle.shapes.specs.declared.conic.Terms.{Terms}
use Rattle.shapes.proofs.Told.{lt_test}

pub component_small : (c : List ℤ) (most : ℕ) → All (λ z. unsigned_abs z ≤ most) c → (i : ℕ) → unsigned_abs (component c i) ≤ most
component_small c most h i =
    ⊎_elim (λ lt. h i (pos 0) lt)
    (λ le. let e : component c i ≡ pos 0 = get_or_past c i (pos 0) le in let P : ℤ → Type 0 = λ z. unsigned_abs z ≤ most in subst P (sym e) (omega arith))
    (cases_lt i (length c))

-- ---- without 100 digits all are small

square_small : (z : ℤ) → unsigned_abs z ≤ 2 ^ 124 → is_term_short 32 0 100 z ≡ true
square_small z h =
    let m : unsigned_abs (shortened z 100) ≤ 2 ^ 24 = rnd_within z (2 ^ 100) (2 ^ 24) (omega arith) (omega (arith, h)) in
    (lt_test (unsigned_abs (shortened z 100)) (2 ^ 32)).1 (omega arith)

line_small : (z : ℤ) → unsigned_abs z ≤ 2 ^ 90 → is_term_short 76 64 100 z ≡ true
line_small z h =
    let m : unsigned_abs (shortened z 36) ≤ 2 ^ 54 = rnd_within z (2 ^ 36) (2 ^ 54) (omega arith) (omega (arith, h)) in
    (lt_test (unsigned_abs (shortened z 36)) (2 ^ 76)).1 (omega arith)

one_small : (z : ℤ) → unsigned_abs z ≤ 2 ^ 90 → is_term_short 121 128 100 z ≡ true
one_small z h =
    let m : unsigned_abs (z *ℤ pos (2 ^ 28)) ≤ 2 ^ 90 * 2 ^ 28 = mul-within z (pos (2 ^ 28)) (2 ^ 90) (2 ^ 28) h (omega arith) in
    (lt_test (unsigned_abs (z *ℤ pos (2 ^ 28))) (2 ^ 121)).1 (omega arith)

ten : (a b c d e f g h i j : Bool) → a ≡ true → b ≡ true → c ≡ true → d ≡ true → e ≡ true → f ≡ true → g ≡ true → h ≡ true → i ≡ true → j ≡ true
    → ((a && (b && c)) && ((d && (e && f)) && ((g && (h && i)) && j))) ≡ true
ten a b c d e f g h i j ea eb ec ed ee ef eg eh ei ej = rw (ea, eb, ec, ed, ee, ef, eg, eh, ei, ej) refl

pub small_at_last : (t : LongTerms) → are_terms_small t 100 ≡ true
small_at_last t =
    ten _ _ _ _ _ _ _ _ _ _
    (square_small t.xx.value t.xx.small) (square_small t.yy.value t.yy.small) (square_small t.zz.value t.zz.small)
    (square_small t.xy.value t.xy.small) (square_small t.xz.value t.xz.small) (square_small t.yz.value t.yz.small)
    (line_small t.x.value t.x_small) (line_small t.y.value t.y_small) (line_small t.z.value t.z_small)
    (one_small t.one.value t.one_small)

-- and what it says of each where all are
pub record AreShort (t : LongTerms) (lost : ℕ) : Type 0 where
  pub xx : IsTermShort 32 0 lost t.xx.value
  pub yy : IsTermShort 32 0 lost t.yy.value
  pub zz : IsTermShort 32 0 lost t.zz.value
  pub xy : IsTermShort 32 0 lost t.xy.value
  pub xz : IsTermShort 32 0 lost t.xz.value
  pub yz : IsTermShort 32 0 lost t.yz.value
  pub x : IsTermShort 76 64 lost t.x.value
  pub y : IsTermShort 76 64 lost t.y.value
  pub z : IsTermShort 76 64 lost t.z.value
  pub one : IsTermShort 121 128 lost t.one.value

left : (a b : Bool) → (a && b) ≡ true → a ≡ true
left true b h = refl
left false b h = absurd (cc)

right : (a b : Bool) → (a && b) ≡ true → b ≡ true
right true b h = h
right false b h = absurd (cc)

pub all_short : (t : LongTerms) (lost : ℕ) → are_terms_small t lost ≡ true → AreShort t lost
all_short t lost h =
    let squares = left _ _ h in
    let rest = right _ _ h in
    let products = left _ _ rest in
    let last = right _ _ rest in
    let lines = left _ _ last in record {
      xx = (lt_test _ _).0 (left _ _ squares);
      yy = (lt_test _ _).0 (left _ _ (right _ _ squares));
      zz = (lt_test _ _).0 (right _ _ (right _ _ squares));
      xy = (lt_test _ _).0 (left _ _ products);
      xz = (lt_test _ _).0 (left _ _ (right _ _ products));
      yz = (lt_test _ _).0 (right _ _ (right _ _ products));
      x = (lt_test _ _).0 (left _ _ lines);
      y = (lt_test _ _).0 (left _ _ (right _ _ lines));
      z = (lt_test _ _).0 (right _ _ (right _ _ lines));
      one = (lt_test _ _).0 (right _ _ last);
    }

-- ---- the coefficients of a leaf

pub record AreTermsOf (t : LongTerms) (c : List ℤ) (place : Xform) : Type 0 where
  pub xx : t.xx.value ≡ square_term c place 0
  pub yy : t.yy.value ≡ square_term c place 1
  pub zz : t.zz.value ≡ square_term c place 2
  pub xy : t.xy.value ≡ product_term c place 0 1
  pub xz : t.xz.value ≡ product_term c place 0 2
  pub yz : t.yz.value ≡ product_term c place 1 2
  pub x : t.x.value ≡ linear_term c place 0
  pub y : t.y.value ≡ linear_term c place 1
  pub z : t.z.value ≡ linear_term c place 2
  pub one : t.one.value ≡ component c 9

pub record AreShifted (q : Terms) (t : LongTerms) (lost : ℕ) : Type 0 where
  pub xx : q.xx.value ≡ shifted 0 lost t.xx.value
  pub yy : q.yy.value ≡ shifted 0 lost t.yy.value
  pub zz : q.zz.value ≡ shifted 0 lost t.zz.value
  pub xy : q.xy.value ≡ shifted 0 lost t.xy.value
  pub xz : q.xz.value ≡ shifted 0 lost t.xz.value
  pub yz : q.yz.value ≡ shifted 0 lost t.yz.value
  pub x : q.x.value ≡ shifted 64 lost t.x.value
  pub y : q.y.value ≡ shifted 64 lost t.y.value
  pub z : q.z.value ≡ shifted 64 lost t.z.value
  pub one : q.one.value ≡ shifted 128 lost t.one.value

small_same : (t : LongTerms) (c : List ℤ) (x : Xform) → AreTermsOf t c x → (lost : ℕ) → are_terms_small t lost ≡ are_small (coefficients c x lost)
small_same t c x s lost = rw (s.xx, s.yy, s.zz, s.xy, s.xz, s.yz, s.x, s.y, s.z, s.one) refl

pub fewest_is : (t : LongTerms) (c : List ℤ) (x : Xform) (lost : ℕ) → AreTermsOf t c x → lost ≤ 100 → are_terms_small t lost ≡ true
    → ((j : ℕ) → j < lost → are_terms_small t j ≡ false) → coefficients c x lost ≡ quadric_of c x
fewest_is t c x lost s few passes first =
    let same = small_same t c x s in
    let e = least-is (λ f. are_small (coefficients c x f)) 128 lost (omega arith) (sym (same lost) ∙ passes) (λ j lt. sym (same j) ∙ first j lt) in
    ap (coefficients c x) (sym e)

shifted_at : (q : Terms) (t : LongTerms) (c : List ℤ) (x : Xform) (lost : ℕ) (u : V3) → AreTermsOf t c x → AreShifted q t lost → terms_at q u ≡ quadric_at (coefficients c x lost) u
shifted_at q t c x lost u s k =
    rw (k.xx, k.yy, k.zz, k.xy, k.xz, k.yz, k.x, k.y, k.z, k.one, s.xx, s.yy, s.zz, s.xy, s.xz, s.yz, s.x, s.y, s.z, s.one) refl

pub quadric_same : (q : Terms) (t : LongTerms) (c : List ℤ) (x : Xform) (lost : ℕ) (u : V3) → AreTermsOf t c x → AreShifted q t lost → coefficients c x lost ≡ quadric_of c x
    → terms_at q u ≡ quadric_at (quadric_of c x) u
quadric_same q t c x lost u s k e = shifted_at q t c x lost u s k ∙ ap (λ (l : List ℤ). quadric_at l u) e

shifted_gradient : (q : Terms) (t : LongTerms) (c : List ℤ) (x : Xform) (lost : ℕ) (u : V3) → AreTermsOf t c x → AreShifted q t lost → terms_gradient q u ≡ gradient (coefficients c x lost) u
shifted_gradient q t c x lost u s k =
    rw (k.xx, k.yy, k.zz, k.xy, k.xz, k.yz, k.x, k.y, k.z, s.xx, s.yy, s.zz, s.xy, s.xz, s.yz, s.x, s.y, s.z) refl

pub gradient_same : (q : Terms) (t : LongTerms) (c : List ℤ) (x : Xform) (lost : ℕ) (u : V3) → AreTermsOf t c x → AreShifted q t lost → coefficients c x lost ≡ quadric_of c x
    → terms_gradient q u ≡ gradient (quadric_of c x) u
gradient_same q t c x lost u s k e = shifted_gradient q t c x lost u s k ∙ ap (λ (l : List ℤ). gradient l u) e
