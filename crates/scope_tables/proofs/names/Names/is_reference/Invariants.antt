use Rattle.std.proofs.Common.{◌≡◌, ◌≤◌, length}
use Rattle.scope_tables.specs.Names.{is_reference, is_reference_in}
use Rattle.scope_tables.proofs.names.Names.is_reference.Given as goal

abbrev pub invariant-scopes : goal.invariant-scopes
invariant-scopes l = (is_reference_in l.self l.count l.name ≡ is_reference l.self l.name) × (l.count ≤ length l.self)

abbrev pub decreases-scopes : goal.decreases-scopes
decreases-scopes l = l.count
