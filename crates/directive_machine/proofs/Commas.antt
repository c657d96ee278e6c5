-- Counting the commas of a call.
use Rattle.std.proofs.Common.{ℕ, suc, zero, ◌≡◌, ◌<◌, ◌+◌, ◌-◌, nat_lt, true, false, Bool, subst, sym, arith, if◌then◌else◌}
use Rattle.text_structure.specs.declared.closer.Closer.{Closer}
use Rattle.text_structure.specs.Texts.{Text, end_of}
use Rattle.directive_machine.specs.Words.{commas}

stepped : (b : Bool) (on stop goal : ℕ) → b ≡ true → (if b then on else stop) ≡ goal → on ≡ goal
stepped true on stop goal is same = same
stepped false on stop goal is same = absurd (cc is)

pub commas_step : (t : Text) (close left count at comma goal : ℕ) → 0 < left → comma ≡ end_of t Closer.Comma at → nat_lt comma close ≡ true → commas t close left count at ≡ goal → commas t close (left - 1) (count + 1) (comma + 1) ≡ goal
commas_step t close zero count at comma goal some is there same = absurd (omega (arith, some))
commas_step t close (suc left) count at comma goal some is there same =
    let less : left ≡ suc left - 1 = omega arith in
    subst (λ k. commas t close k (count + 1) (comma + 1) ≡ goal) less
    (subst (λ k. commas t close left (count + 1) (k + 1) ≡ goal) (sym is) (stepped _ _ count goal (subst (λ k. nat_lt k close ≡ true) is there) same))
