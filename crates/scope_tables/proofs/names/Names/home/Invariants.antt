use Rattle.std.proofs.Common.{◌≡◌, ◌≤◌, length}
use Rattle.scope_tables.specs.Names.{home, home_in}
use Rattle.scope_tables.proofs.names.Names.home.Given as goal

abbrev pub invariant-scopes : goal.invariant-scopes
invariant-scopes l = (home_in l.self l.count l.wanted ≡ home l.self l.name) × (l.count ≤ length l.self)

abbrev pub decreases-scopes : goal.decreases-scopes
decreases-scopes l = l.count
