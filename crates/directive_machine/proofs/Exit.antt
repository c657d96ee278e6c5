-- What holds at an exit.
use Rattle.std.proofs.Common.{◌≡◌, subst, sym, ap, ◌∙◌, Option, Result, Ok, Err}
use Rattle.text_structure.specs.Texts.{Text}
use Rattle.scope_tables.specs.declared.binding.Binding.{Binding}
use Rattle.directive_machine.specs.declared.part.Call.{Call}
use Rattle.directive_machine.specs.declared.part.Part.{Part}
use Rattle.directive_machine.specs.declared.part.Then.{Then}
use Rattle.directive_machine.specs.State.{Settled, Stopped}
use Rattle.directive_machine.specs.Values.{Valued}
use Rattle.directive_machine.specs.Arguments.{made_argument}
use Rattle.directive_machine.specs.Settles.{made}
use Rattle.std.specs.Result.{IfErr, IsErrAnd}

-- what holds of the fault holds at the exit of a `?`
pub exit : {T E : Type 0} → (Q : E → Type 0) (y : E) (r : Result T E) → IsErrAnd r (λ x. x ≡ y) → Q y → IfErr r Q
exit Q y (Ok t) is q = absurd is
exit Q y (Err x) is q = subst Q (sym is) q

-- an argument's value is bound, where that is what is made of it
pub passed : (t : Text) (home : Option Text) (part : Part) (call : Call) (then' : Then) (v : Valued) (r : Result Settled Stopped) → then' ≡ Then.Pass call → made_argument t home part call (Binding.Value v.value) v.state ≡ r → r ≡ made t home part then' v
passed t home part call then' v r is same = sym (ap (λ k. made t home part k v) is ∙ same)
