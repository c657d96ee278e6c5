use Rattle.std.proofs.Common.{◌≡◌, ◌≤◌, length}
use Rattle.scope_tables.specs.Names.{found, found_in}
use Rattle.scope_tables.proofs.names.Names.find.Given as goal

abbrev pub invariant-scopes : goal.invariant-scopes
invariant-scopes l = (found_in l.self l.count l.wanted ≡ found l.self l.name) × (l.count ≤ length l.self)

abbrev pub decreases-scopes : goal.decreases-scopes
decreases-scopes l = l.count
