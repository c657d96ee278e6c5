-- A scene comes to one outcome at most.
use Rattle.std.proofs.Common.{ℕ, List, Option, Some, None}
use Rattle.scene_expr.specs.Then.{IsOne, one_is, one_then}
use Rattle.directive_machine.specs.declared.flat.Source.{Source}
use Rattle.directive_machine.specs.Course.{Given}
use Rattle.directive_machine.specs.Sources.{Opened}
use Rattle.directive_machine.specs.Expansions.{first_text, first_state, no_sources, start, IsExpanded, IsExpansionOf, IsExpansion}
use Rattle.directive_machine.proofs.Settled.{one_beside}
use Rattle.directive_machine.proofs.OneText.{OneEnd, one_opened, one_settled}
use Rattle.directive_machine.proofs.One.{one_part}

one_expanded : OneEnd → (g : Given) (found : Opened) → IsOne (IsExpanded g found)
one_expanded one g found = one_then (λ r s p q. one_part g (λ part a. one_settled one g part a) _ _ _ r s p q) (λ a. one_is _)

one_expansion_of : OneEnd → (file : Option Source) (g : Given) (name : List ℕ) → IsOne (IsExpansionOf file g name)
one_expansion_of one None g name = one_is _
one_expansion_of one (Some file) g name = one_then (one_beside first_state (one_opened one file start no_sources)) (one_expanded one g)

pub one_expansion : OneEnd → (g : Given) (name : List ℕ) (bytes : Option (List ℕ)) → IsOne (IsExpansion g name bytes)
one_expansion one g name bytes = one_expansion_of one (first_text g.held name bytes) g name
