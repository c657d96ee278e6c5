-- What the whole table says of the letters, what is left of it says.
use Rattle.std.proofs.Common.{◌≡◌, drop}
use Rattle.options.specs.Table.{switch_in}
use Rattle.options.proofs.table.switch_in.Given as goal

abbrev pub invariant-loop-switch : goal.invariant-loop-switch
invariant-loop-switch l =
    switch_in (λ entry. entry.0.now) (λ entry. entry.1) (λ entry. entry.2) l.is_minus l.letters l.switches
    ≡ switch_in (λ entry. entry.0.now) (λ entry. entry.1) (λ entry. entry.2) l.is_minus l.letters (drop l.switch-index l.switches)
