-- What a machine carries.
use Rattle.directive_machine.specs.declared.machine.Machine.{Machine}
use Rattle.directive_machine.specs.State.{State}

abbrev pub state_of : Machine → State
state_of m = record { scopes = m.scopes; waiting = m.waiting; taken = m.taken; out = m.out.items; messages = m.messages.items }
