-- What the whole table says of the text, what is left of it says.
use Rattle.std.proofs.Common.{◌≡◌, drop}
use Rattle.options.specs.Values.{truth_in}
use Rattle.options.proofs.values.truth_in.Given as goal

abbrev pub invariant-loop-letters : goal.invariant-loop-letters
invariant-loop-letters l =
    truth_in (λ entry. entry.0.now) (λ entry. entry.1) l.value l.truths
    ≡ truth_in (λ entry. entry.0.now) (λ entry. entry.1) l.value (drop l.letters-index l.truths)
