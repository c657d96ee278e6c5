-- What a token begins, and what comes behind a part that is expanded.
use Rattle.std.specs.Prelude.{ℕ, Bool}
use Rattle.directive_machine.specs.declared.part.Part.{Part}
use Rattle.directive_machine.specs.declared.part.Lead.{Lead}
use Rattle.directive_machine.specs.declared.part.Rest.{Rest}

-- nothing, and a further token; the end of the innermost switch or loop; or a part, and the next token behind it
pub data Action : Type 0 where
  Step : ℕ → Action
  Break : Action
  Open : Part → ℕ → Action

-- what stands around a part, or the end of the innermost switch or loop; or a further part
pub data Next : Type 0 where
  Done : Bool → Next
  Further : Part → Next

-- a part that was opened stands where it was written
abbrev pub action_of : Lead → Part → Action
action_of (Lead.Step next) part = Action.Step next
action_of Lead.Break part = Action.Break
action_of (Lead.Open behind) part = Action.Open part behind

abbrev pub next_of : Rest → Part → Next
next_of (Rest.Done broken) part = Next.Done broken
next_of Rest.Further part = Next.Further part
