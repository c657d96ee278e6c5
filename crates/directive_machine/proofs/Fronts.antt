-- Bytes that stand first in others.
use Rattle.std.proofs.lemmas.List.{append_assoc, append-nil}
use Rattle.std.proofs.Common.{ℕ, sym, ap, ◌∙◌, List, [], ◌++◌}
use Rattle.directive_machine.specs.Fronts.{IsFront}

pub front_same : (m : List ℕ) → IsFront m m
front_same m = record { more = []; is = sym (append-nil m) }

pub front_more : (m said more : List ℕ) → IsFront m said → IsFront m (said ++ more)
front_more m said more front = record { more = front.more ++ more; is = ap (λ k. k ++ more) front.is ∙ append_assoc m front.more more }
