-- Entries of a table of ends.
use Rattle.std.proofs.Common.{ℕ, ◌+◌, nat_eq, slice_get, None, if◌then◌else◌, ap, ◌≡◌, ◌<◌, ◌≤◌, subst, sym, ◌∙◌, List, length, arith}
use Rattle.text_structure.specs.declared.mark.Mark.{Mark}
use Rattle.text_structure.specs.declared.closer.Closer.{Closer}
use Rattle.text_structure.specs.declared.closer.Turn.{Turn}
use Rattle.text_structure.specs.Turns.{turn_at, past, sign_at, directive_in, directive_at}
use Rattle.text_structure.specs.Ends.{Ends}
use Rattle.text_structure.specs.Tables.{IsEntry}

pub stopped : (m : List Mark) (closer : Closer) (at : ℕ) (t : Turn) → t ≡ turn_at m closer at → t ≡ Turn.Stop → at ≤ length m → IsEntry m closer at at
stopped m closer at t value is within = record { ends = Ends.here closer at (sym value ∙ is); behind = omega arith; within = within }

pub gone_over : (m : List Mark) (closer : Closer) (at next end : ℕ) (t : Turn) → t ≡ turn_at m closer at → t ≡ Turn.Over next → at < next → IsEntry m closer next end → IsEntry m closer at end
gone_over m closer at next end t value is ahead rest =
    record { ends = Ends.over closer at next end (sym value ∙ is) rest.ends; behind = omega (arith, ahead, rest.behind); within = rest.within }

pub gone_inside : (m : List Mark) (closer inner : Closer) (at start last behind end : ℕ) (t : Turn) → t ≡ turn_at m closer at → t ≡ Turn.Inside inner start → at < start → IsEntry m inner start last → behind ≡ past m inner last → last ≤ behind → IsEntry m closer behind end → IsEntry m closer at end
gone_inside m closer inner at start last behind end t value is ahead inside there further rest =
    record { ends = Ends.inside closer inner at start last end (sym value ∙ is) inside.ends (subst (λ k. Ends m closer k end) there rest.ends); behind = omega (arith, ahead, inside.behind, further, rest.behind); within = rest.within }

pub at_sign : (m : List Mark) (at code : ℕ) → code ≡ sign_at m at → code ≡ 35 → directive_in (slice_get m (at + 1)) ≡ directive_at m at
at_sign m at code value is =
    sym (ap (λ b. if b then directive_in (slice_get m (at + 1)) else None) (ap (λ k. nat_eq k 35) (sym value ∙ is)))
