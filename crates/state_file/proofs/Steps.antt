-- How a pen stays in order from one call of the shelf to the next.
use Rattle.std.proofs.Common.{ℕ, ◌<◌, ◌≡◌, List, Option, subst, inl, inr}
use Rattle.shelf.specs.Disk.{Images, SameOthers}
use Rattle.shelf.specs.Moments.{Passes, Under}
use Rattle.shelf.proofs.Steps as shelf_steps
use Rattle.state_file.specs.declared.mark.Mark.{Mark}
use Rattle.state_file.specs.declared.mark.Mark.TheVariants.{Open}
use Rattle.state_file.specs.Layout.{Layout, IsOpenBlock}
use Rattle.state_file.specs.Marks.{Fits, IsShown, mark_at, Rises}
use Rattle.state_file.specs.Order.{IsSafe, Steady}
use Rattle.state_file.proofs.Files.{mark_cases}

-- a file that agrees with the marks is safe, where what was open at first is open
pub safe : (l : Layout) (truth : Option (List ℕ)) (first marks : List Mark) (c : List ℕ)
    → ((b : ℕ) → mark_at first b ≡ Open → mark_at marks b ≡ Open) → Fits l truth marks c → IsSafe l truth first marks c
safe l truth first marks c r f =
    let noted : (b : ℕ) → b < l.count → IsOpenBlock l b c → IsShown (mark_at marks b) = λ b hb o.
    elim (mark_cases (mark_at marks b)) [ inl e ↦ absurd (o.gate (f.shut b hb e)) | inr n ↦ n ] in
    record {
      file = f.file;
      honest = λ b hb o. f.shown b hb (noted b hb o);
      noted = noted;
      kept = λ b hb e. record { file = f.file; gate = f.opened b hb (r b e) };
    }

-- what was safe stays so while marks rise
pub still_safe : (l : Layout) (truth : Option (List ℕ)) (first old new : List Mark) (c : List ℕ)
    → Rises old new → IsSafe l truth first old c → IsSafe l truth first new c
still_safe l truth first old new c r s = record {
  file = s.file;
  honest = s.honest;
  noted = λ b hb o. r.shown b (s.noted b hb o);
  kept = s.kept;
}

pub rises_refl : (marks : List Mark) → Rises marks marks
rises_refl marks = record { shown = λ b s. s; opened = λ b e. e }

pub rises_trans : (a b c : List Mark) → Rises a b → Rises b c → Rises a c
rises_trans a b c p q = record { shown = λ k s. q.shown k (p.shown k s); opened = λ k e. q.opened k (p.opened k e) }

-- the first fact: what agrees with the marks is in order for the start that is taken now
pub started : {S : Type 0} (moment : S → ℕ) (images : S → Images) (name : List ℕ) (l : Layout) (truth : Option (List ℕ))
    (marks : List Mark) (now : S) → ((c : List ℕ) → images now (moment now) name c → Fits l truth marks c)
    → Steady moment images name l truth marks now marks now
started {S} moment images name l truth marks now f = record {
  moments = shelf_steps.started (moment now) (images now) (Under name (IsSafe l truth marks marks) (images now (moment now)))
      (λ n c i. record {
        own = λ same. safe l truth marks marks c (λ b o. o) (f c (subst (λ x. images now (moment now) x c) same i));
        other = λ ne. i;
      });
  risen = rises_refl marks;
  fits = f;
  others = λ n c ne i. i;
}

-- one call of the shelf, after which each image agrees with the marks
pub goes_on : {S : Type 0} (moment : S → ℕ) (images : S → Images) (name : List ℕ) (l : Layout) (truth : Option (List ℕ))
    (first marks : List Mark) (start old new : S) → Steady moment images name l truth first start marks old
    → Passes (moment old) (moment new) (images old) (images new)
    → SameOthers name (images old (moment old)) (images new (moment new))
    → ((c : List ℕ) → images new (moment new) name c → Fits l truth marks c)
    → Steady moment images name l truth first start marks new
goes_on {S} moment images name l truth first marks start old new s p o f = record {
  moments = shelf_steps.goes_on (moment start) (moment old) (moment new) (images start) (images old) (images new)
      (Under name (IsSafe l truth first marks) (images start (moment start))) s.moments p
      (λ n c i. record {
        own = λ same. safe l truth first marks c s.risen.opened (f c (subst (λ x. images new (moment new) x c) same i));
        other = λ ne. s.others n c ne (o n c ne i);
      });
  risen = s.risen;
  fits = f;
  others = λ n c ne i. s.others n c ne (o n c ne i);
}

-- the marks rise while the shelf rests
pub re_marked : {S : Type 0} (moment : S → ℕ) (images : S → Images) (name : List ℕ) (l : Layout) (truth : Option (List ℕ))
    (first old new : List Mark) (start now : S) → Steady moment images name l truth first start old now
    → Rises old new → ((c : List ℕ) → images now (moment now) name c → Fits l truth new c)
    → Steady moment images name l truth first start new now
re_marked {S} moment images name l truth first old new start now s r f = record {
  moments = shelf_steps.weaker (moment start) (moment now) (images start) (images now)
      (Under name (IsSafe l truth first new) (images start (moment start)))
      (Under name (IsSafe l truth first old) (images start (moment start))) s.moments
      (λ n c u. record { own = λ same. still_safe l truth first old new c r (u.own same); other = u.other });
  risen = rises_trans first old new s.risen r;
  fits = f;
  others = s.others;
}
