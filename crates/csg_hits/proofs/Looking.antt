-- What is known of shapes behind a number: of groups from their parts.
use Rattle.std.proofs.Common.{ℕ, ◌+◌, ◌<◌, ◌≤◌, ◌≡◌, Bool, false, ◌&&◌, Vec, Global, List, length, get_or, refl, ap, sym, ◌∙◌, subst, ⊎_elim, arith}
use Rattle.std.proofs.lemmas.Bool.{or_from, and_right, and_left, cases_lt, cases_eq}
use Rattle.scene_model.specs.declared.shape.Op.{Op}
use Rattle.scene_model.specs.declared.shape.Shape.{Shape}
use Rattle.scene_model.specs.declared.shape.Shape.TheViews.{Group}
use Rattle.csg_hits.specs.declared.outlook.Outcome.{Outcome}
use Rattle.csg_hits.specs.declared.outlook.Outlook.{Outlook}
use Rattle.csg_hits.specs.Outlooks.{joined, IsLeast, IsUnstruck, IsOutlook, IsOutcome, IsWith, IsOutcomeWith, IsGroup, IsOutcomeGroup, Settles}
use Rattle.csg_hits.specs.Sides.{Sides, differ, keeps, as_group, sides}
use Rattle.csg_hits.proofs.Groups.{Leaves, with_part, first_parts, more_parts, one_part, all_parts, settled, settled_at, settled_now}

pub same_outlook : (v w : ℕ → Sides) (t end : ℕ) (o : Outlook) → ((s : ℕ) → w s ≡ v s) → IsOutlook v t end o → IsOutlook w t end o
same_outlook v w t end o e h = record {
  holds = h.holds ∙ ap (λ (x : Sides). x.now) (sym (e t));
  above = h.above;
  quiet = λ s a b c. (let P : Sides → Type 0 = λ x. IsUnstruck x.strikes in subst P (sym (e s)) (h.quiet s a b c));
  steady = λ s a b c.
      let p = h.steady s a b c in
      let n = ap (λ (x : Sides). x.now) (sym (e t)) in
      (ap (λ (x : Sides). x.before) (e s) ∙ p.0 ∙ n, ap (λ (x : Sides). x.now) (e s) ∙ p.1 ∙ n);
}

-- the same where the two are equal below the end alone
pub outlook_below : (v w : ℕ → Sides) (t end : ℕ) (o : Outlook) → t < end → ((s : ℕ) → s < end → w s ≡ v s) → IsOutlook v t end o → IsOutlook w t end o
outlook_below v w t end o lt e h = record {
  holds = h.holds ∙ ap (λ (x : Sides). x.now) (sym (e t lt));
  above = h.above;
  quiet = λ s a b c. (let P : Sides → Type 0 = λ x. IsUnstruck x.strikes in subst P (sym (e s c)) (h.quiet s a b c));
  steady = λ s a b c.
      let p = h.steady s a b c in
      let n = ap (λ (x : Sides). x.now) (sym (e t lt)) in
      (ap (λ (x : Sides). x.before) (e s c) ∙ p.0 ∙ n, ap (λ (x : Sides). x.now) (e s c) ∙ p.1 ∙ n);
}

pub same_outcome : (v w : ℕ → Sides) (t end : ℕ) (o : Outcome) → ((s : ℕ) → w s ≡ v s) → IsOutcome v t end o → IsOutcome w t end o
same_outcome v w t end o e h = record {
  before = h.before ∙ ap (λ (x : Sides). x.before) (sym (e t));
  first = (let P : Sides → Type 0 = λ x. IsLeast x.strikes o.first in subst P (sym (e t)) h.first);
  ahead = same_outlook v w t end o.ahead e h.ahead;
}

-- one part more
with_outlook : (op : Op) (v w : ℕ → Sides) (t end : ℕ) (a b o : Outlook) → IsOutlook v t end a → IsOutlook w t end b → IsWith op a b o → IsOutlook (λ s. with_part op (v s) (w s)) t end o
with_outlook op v w t end a b o h k m = record {
  holds = let f = h.holds in let g = k.holds in let q = m.holds in cc;
  above = λ l. m.above t (h.above l) (k.above l);
  quiet = λ s l n below. let f = h.quiet s l (omega (arith, m.low)) below in let g = k.quiet s l (omega (arith, m.part_low)) below in λ x. or_from _ _ (f x) (g x);
  steady = λ s l n below.
      let f = h.holds in
      let g = k.holds in
      let whole : joined op a.holds b.holds ≡ joined op (v t).now (w t).now = cc in (
        m.steady s _ _ n (λ q. (h.steady s l q below).0 ∙ sym h.holds) (λ q. (k.steady s l q below).0 ∙ sym k.holds) ∙ whole,
        m.steady s _ _ n (λ q. (h.steady s l q below).1 ∙ sym h.holds) (λ q. (k.steady s l q below).1 ∙ sym k.holds) ∙ whole,
      );
}

with_outcome : (op : Op) (v w : ℕ → Sides) (t end : ℕ) (a b o : Outcome) → IsOutcome v t end a → IsOutcome w t end b → IsOutcomeWith op a b o → IsOutcome (λ s. with_part op (v s) (w s)) t end o
with_outcome op v w t end a b o h k m = record {
  before = let f = h.before in let g = k.before in let q = m.before in cc;
  first = m.first _ _ h.first k.first;
  ahead = with_outlook op v w t end a.ahead b.ahead o.ahead h.ahead k.ahead m.ahead;
}

-- all parts
group_outlook : (op : Op) (inverse : Bool) (v : ℕ → Sides) (t end : ℕ) (a o : Outlook) → IsOutlook v t end a → IsGroup op inverse a o → IsOutlook (λ s. as_group op inverse (v s)) t end o
group_outlook op inverse v t end a o h m = record {
  holds = let f = h.holds in let q = m.holds in cc;
  above = λ l. let q = h.above l in omega (arith, m.above);
  quiet = λ s l n below. ⊎_elim
      (λ lt. λ x. and_right _ _ (h.quiet s l lt below x))
      (λ ge. λ x.
      let r = m.next s n ge in
      let p = h.steady s l r.0 below in
      and_left _ _ (ap (λ (b : Bool). keeps op b (v s).now) (p.0 ∙ sym h.holds) ∙ ap (λ (b : Bool). keeps op a.holds b) (p.1 ∙ sym h.holds) ∙ r.1))
      (cases_lt s a.next);
  steady = λ s l n below.
      let p = h.steady s l (omega (arith, m.change)) below in
      (ap (λ (b : Bool). differ b inverse) p.0, ap (λ (b : Bool). differ b inverse) p.1);
}

group_outcome : (op : Op) (inverse : Bool) (v : ℕ → Sides) (t end : ℕ) (a o : Outcome) → IsOutcome v t end a → IsOutcomeGroup op inverse a o → IsOutcome (λ s. as_group op inverse (v s)) t end o
group_outcome op inverse v t end a o h m = record {
  before = let f = h.before in let q = m.before in cc;
  first =
      let strikes = (v t).strikes in
      let P : Bool → Type 0 = λ b. IsLeast (λ n. keeps op b a.ahead.holds && strikes n) o.first in
      let Q : Bool → Type 0 = λ b. IsLeast (λ n. keeps op (v t).before b && strikes n) o.first in
      subst Q h.ahead.holds (subst P h.before (m.first strikes h.first));
  ahead = group_outlook op inverse v t end a.ahead o.ahead h.ahead m.ahead;
}

-- ---- in a loop over the parts

pub begun_outlook : (f : Leaves) (op : Op) (parts : List Shape) (i t end : ℕ) (x : Shape) (o : Outlook) → i ≡ 0 → i < length parts → x ≡ get_or parts i x
    → IsOutlook (λ s. sides (f s) x) t end o → IsOutlook (first_parts f op parts (i + 1)) t end o
begun_outlook f op parts i t end x o zero lt e h =
    let P : ℕ → Type 0 = λ k. k < length parts → x ≡ get_or parts k x → IsOutlook (first_parts f op parts (k + 1)) t end o in
    subst P (sym zero) (λ l g. same_outlook _ _ t end o (λ s. one_part f op parts s x l g) h) lt e

pub more_outlook : (f : Leaves) (op : Op) (parts : List Shape) (i t end : ℕ) (x : Shape) (a b o : Outlook) → 0 < i → i < length parts → x ≡ get_or parts i x
    → IsOutlook (first_parts f op parts i) t end a → IsOutlook (λ s. sides (f s) x) t end b → IsWith op a b o → IsOutlook (first_parts f op parts (i + 1)) t end o
more_outlook f op parts i t end x a b o positive lt e h k m =
    same_outlook (λ s. with_part op (first_parts f op parts i s) (sides (f s) x)) _ t end o (λ s. more_parts f op parts i s x positive lt e) (with_outlook op _ _ t end a b o h k m)

pub next_outlook : (f : Leaves) (op : Op) (parts : List Shape) (i t end : ℕ) (x : Shape) (a b o : Outlook) → i < length parts → x ≡ get_or parts i x
    → IsOutlook (first_parts f op parts i) t end a → IsOutlook (λ s. sides (f s) x) t end b → (i ≡ 0 → o ≡ b) → (0 < i → IsWith op a b o) → IsOutlook (first_parts f op parts (i + 1)) t end o
next_outlook f op parts i t end x a b o lt e h k first more = ⊎_elim
    (λ zero. let P : Outlook → Type 0 = IsOutlook (first_parts f op parts (i + 1)) t end in subst P (sym (first zero)) (begun_outlook f op parts i t end x b zero lt e k))
    (λ ne. let positive : 0 < i = omega arith in more_outlook f op parts i t end x a b o positive lt e h k (more positive))
    (cases_eq i 0)

pub whole_outlook : (f : Leaves) (shape : Shape) (op : Op) (vec : Vec Shape Global) (parts : List Shape) (inverse : Bool) (i t end : ℕ) (a o : Outlook) → shape ≡ Group op vec inverse → parts ≡ vec.items
    → length parts ≤ i → IsOutlook (first_parts f op parts i) t end a → IsGroup op inverse a o → IsOutlook (λ s. sides (f s) shape) t end o
whole_outlook f shape op vec parts inverse i t end a o is same all h m =
    same_outlook (λ s. as_group op inverse (first_parts f op parts i s)) _ t end o (λ s. all_parts f shape op vec parts inverse i s is same all) (group_outlook op inverse _ t end a o h m)

pub begun : (f : Leaves) (op : Op) (parts : List Shape) (i t end : ℕ) (x : Shape) (o : Outcome) → i ≡ 0 → i < length parts → x ≡ get_or parts i x
    → IsOutcome (λ s. sides (f s) x) t end o → IsOutcome (first_parts f op parts (i + 1)) t end o
begun f op parts i t end x o zero lt e h =
    let P : ℕ → Type 0 = λ k. k < length parts → x ≡ get_or parts k x → IsOutcome (first_parts f op parts (k + 1)) t end o in
    subst P (sym zero) (λ l g. same_outcome _ _ t end o (λ s. one_part f op parts s x l g) h) lt e

pub joined_more : (f : Leaves) (op : Op) (parts : List Shape) (i t end : ℕ) (x : Shape) (a b o : Outcome) → 0 < i → i < length parts → x ≡ get_or parts i x
    → IsOutcome (first_parts f op parts i) t end a → IsOutcome (λ s. sides (f s) x) t end b → IsOutcomeWith op a b o → IsOutcome (first_parts f op parts (i + 1)) t end o
joined_more f op parts i t end x a b o positive lt e h k m =
    same_outcome (λ s. with_part op (first_parts f op parts i s) (sides (f s) x)) _ t end o (λ s. more_parts f op parts i s x positive lt e) (with_outcome op _ _ t end a b o h k m)

pub grouped : (f : Leaves) (shape : Shape) (op : Op) (vec : Vec Shape Global) (parts : List Shape) (inverse : Bool) (i t end : ℕ) (a o : Outcome) → shape ≡ Group op vec inverse → parts ≡ vec.items
    → length parts ≤ i → IsOutcome (first_parts f op parts i) t end a → IsOutcomeGroup op inverse a o → IsOutcome (λ s. sides (f s) shape) t end o
grouped f shape op vec parts inverse i t end a o is same all h m =
    same_outcome (λ s. as_group op inverse (first_parts f op parts i s)) _ t end o (λ s. all_parts f shape op vec parts inverse i s is same all) (group_outcome op inverse _ t end a o h m)

-- ---- a group that fails up to the end with its first parts

pub fails_on : (v : ℕ → Sides) (t end : ℕ) (o : Outlook) → IsOutlook v t end o → o.holds ≡ false → end ≤ o.change → (s : ℕ) → t < s → s < end → ((v s).before ≡ false) × ((v s).now ≡ false)
fails_on v t end o h e far s l below =
    let p = h.steady s l (omega arith) below in
    (p.0 ∙ sym h.holds ∙ e, p.1 ∙ sym h.holds ∙ e)

pub settled_outlook : (f : Leaves) (shape : Shape) (op : Op) (vec : Vec Shape Global) (parts : List Shape) (inverse : Bool) (i t end : ℕ) (a o : Outlook) → shape ≡ Group op vec inverse → parts ≡ vec.items
    → 0 < i → 0 < length parts → Settles op → IsOutlook (first_parts f op parts i) t end a → a.holds ≡ false → end ≤ a.change → IsGroup op inverse a o → IsOutlook (λ s. sides (f s) shape) t end o
settled_outlook f shape op vec parts inverse i t end a o is same positive some settles h e far m =
    let now = settled_now f shape op vec parts inverse i t is same positive some settles (sym h.holds ∙ e) in
    let at : (s : ℕ) → t < s → s < end → sides (f s) shape ≡ settled inverse = λ s l below.
    let p = fails_on (first_parts f op parts i) t end a h e far s l below in
    settled_at f shape op vec parts inverse i s is same positive some settles p.0 p.1 in
    record {
      holds = m.holds ∙ ap (λ (b : Bool). differ b inverse) e ∙ sym now;
      above = λ l. let q = h.above l in omega (arith, m.above);
      quiet = λ s l n below. (let P : Sides → Type 0 = λ x. IsUnstruck x.strikes in subst P (sym (at s l below)) (λ x. refl));
      steady = λ s l n below. (ap (λ (x : Sides). x.before) (at s l below) ∙ sym now, ap (λ (x : Sides). x.now) (at s l below) ∙ sym now);
    }
