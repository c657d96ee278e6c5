-- What the whole table says of the text, what is left of it says.
use Rattle.std.proofs.Common.{◌≡◌, drop}
use Rattle.options.specs.Table.{name_in}
use Rattle.options.proofs.table.name_in.Given as goal

abbrev pub invariant-loop-name : goal.invariant-loop-name
invariant-loop-name l =
    name_in (λ entry. entry.0.now) (λ entry. entry.1) l.text l.names
    ≡ name_in (λ entry. entry.0.now) (λ entry. entry.1) l.text (drop l.name-index l.names)
