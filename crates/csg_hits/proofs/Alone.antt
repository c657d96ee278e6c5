-- Shapes that are leaves.
use Rattle.std.proofs.Common.{ℕ, ◌-◌, ◌<◌, ◌≤◌, ◌≡◌, Bool, true, false, Option, Some, None, List, length, get_or, slice_get, refl, ap, sym, ◌∙◌, subst, ⊎_elim, arith}
use lib.Dec.{eqb}
use Rattle.std.proofs.lemmas.Bool.{cases_order, and_left, and_from, and_parts, eq-eqb, eqb-true}
use Rattle.std.proofs.lemmas.Option.{slice_get_past, slice_get_read}
use Rattle.scene_model.specs.declared.shape.Shape.{Shape, Leaf}
use Rattle.scene_model.specs.declared.shape.Shape.TheOpen.{Shape-F}
use Rattle.scene_model.specs.declared.shape.Shape.TheVariants.{rolls-Leaf}
use Rattle.scene_model.specs.declared.shape.Shape.TheFolds.{fold-roll-Shape}
use Rattle.csg_hits.specs.declared.outlook.Outcome.{Outcome}
use Rattle.csg_hits.specs.declared.outlook.Outlook.{Outlook}
use Rattle.csg_hits.specs.declared.row.Row.{Row}
use Rattle.csg_hits.specs.Outlooks.{IsLeast, IsUnstruck, IsOutlook, IsOutcome, IsQuiet}
use Rattle.csg_hits.specs.Rows.{row_crossing, row_holds, leaf_in, crossing_in}
use Rattle.csg_hits.specs.Sides.{Crossing, Sides, differ, sides, sides_step, leaf_sides, nowhere}
use Rattle.csg_hits.proofs.Groups.{Leaves, same_sides}
use Rattle.csg_hits.proofs.Looking.{same_outcome, same_outlook}

pub leaf_is : (leaf : ℕ → Crossing) (shape : Shape) (n : ℕ) → shape ≡ Leaf n → sides leaf shape ≡ leaf_sides n (leaf n)
leaf_is leaf shape n is = ap (sides leaf) (is ∙ sym (rolls-Leaf n)) ∙ fold-roll-Shape Sides (sides_step leaf) (Shape-F.Leaf n)

pub leaf_outlook : (f : Leaves) (shape : Shape) (n t end : ℕ) (o : Outlook) → shape ≡ Leaf n → IsOutlook (λ s. leaf_sides n (f s n)) t end o → IsOutlook (λ s. sides (f s) shape) t end o
leaf_outlook f shape n t end o is h = same_outlook _ _ t end o (λ s. leaf_is (f s) shape n is) h

pub leaf_outcome : (f : Leaves) (shape : Shape) (n t end : ℕ) (o : Outcome) → shape ≡ Leaf n → IsOutcome (λ s. leaf_sides n (f s n)) t end o → IsOutcome (λ s. sides (f s) shape) t end o
leaf_outcome f shape n t end o is h =
    let e = leaf_is (f t) shape n is in
    record {
      before = h.before ∙ ap (λ (x : Sides). x.before) (sym e);
      first = (let P : Sides → Type 0 = λ x. IsLeast x.strikes o.first in subst P (sym e) h.first);
      ahead = leaf_outlook f shape n t end o.ahead is h.ahead;
    }

-- at t too, and on to the next number
pub quiet_on : (strikes : ℕ → ℕ → Bool) (from t next : ℕ) → from ≤ t → t < next → IsQuiet strikes from t → IsUnstruck (strikes t) → ((s : ℕ) → t < s → s < next → IsUnstruck (strikes s))
    → (from ≤ next) × IsQuiet strikes from next
quiet_on strikes from t next low further passed here beyond = (
  omega arith,
  λ s a b. ⊎_elim
      (λ e. let P : ℕ → Type 0 = λ k. IsUnstruck (strikes k) in subst P (sym e) here)
      (⊎_elim (λ lt. passed s a lt) (λ gt. beyond s gt b))
      (cases_order s t),
)

differ_same : (a b : Bool) → a ≡ b → differ a b ≡ false
differ_same true b e = rw (← e) refl
differ_same false b e = rw (← e) refl

abbrev row_strikes : Row → ℕ → ℕ → ℕ → Bool
row_strikes row n s = (leaf_sides n (row_crossing row s)).strikes

pub quiet_row : (row : Row) (n s : ℕ) → row_holds row (s - 1) ≡ row_holds row s → IsUnstruck (row_strikes row n s)
quiet_row row n s e = λ m. and_left _ _ (and_left _ _ (differ_same (row_holds row (s - 1)) (row_holds row s) e))

pub none_here : (row : Row) (n s : ℕ) → (row_crossing row s).struck ≡ false → IsUnstruck (row_strikes row n s)
none_here row n s e = λ m. and_left _ _ e

pub struck_here : (row : Row) (n s : ℕ) → (row_crossing row s).struck ≡ true → IsLeast (row_strikes row n s) (Some n)
struck_here row n s e = (and_from _ _ e (eq-eqb n n refl), λ m h. let p = and_parts (row_crossing row s).struck (eqb m n) h in let q : m ≡ n = eqb-true m n p.1 in omega arith)

-- a leaf by its row, or with none
pub row_outcome : (rows : List Row) (n t end : ℕ) (row : Row) (o : Outcome) → n < length rows → row ≡ get_or rows n row → IsOutcome (λ s. leaf_sides n (row_crossing row s)) t end o → IsOutcome (λ s. leaf_sides n (leaf_in rows s n)) t end o
row_outcome rows n t end row o lt e h =
    let at : slice_get rows n ≡ Some row = slice_get_read rows (length rows) n row refl lt e in
    let P : Option Row → Type 0 = λ r. IsOutcome (λ s. leaf_sides n (crossing_in r s)) t end o in subst P (sym at) h

pub none_outcome : (rows : List Row) (n t end : ℕ) (o : Outcome) → length rows ≤ n → IsOutcome (λ s. nowhere) t end o → IsOutcome (λ s. leaf_sides n (leaf_in rows s n)) t end o
none_outcome rows n t end o past h =
    let at : slice_get rows n ≡ None = slice_get_past rows n past in
    let P : Option Row → Type 0 = λ r. IsOutcome (λ s. leaf_sides n (crossing_in r s)) t end o in subst P (sym at) h

-- a row that holds nowhere
nowhere_row : (row : Row) (n s : ℕ) → ((t : ℕ) → row_holds row t ≡ false) → leaf_sides n (row_crossing row s) ≡ nowhere
nowhere_row row n s h =
    same_sides (leaf_sides n (row_crossing row s)) nowhere (h (s - 1)) (h s) (λ m. quiet_row row n s (h (s - 1) ∙ sym (h s)) m)

pub nowhere_outcome : (row : Row) (n t end : ℕ) (o : Outcome) → ((s : ℕ) → row_holds row s ≡ false) → IsOutcome (λ s. nowhere) t end o → IsOutcome (λ s. leaf_sides n (row_crossing row s)) t end o
nowhere_outcome row n t end o h k = same_outcome (λ s. nowhere) _ t end o (λ s. nowhere_row row n s h) k
