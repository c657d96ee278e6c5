use Rattle.std.proofs.Common.{◌≡◌, ◌<◌, ◌+◌, ◌^◌}
use Rattle.directive_machine.specs.Words.{commas}
use Rattle.directive_machine.proofs.words.commas.Given as goal

abbrev pub invariant-commas : goal.invariant-commas
invariant-commas l =
    (commas l.source l.close l.left l.count l.at ≡ commas l.source l.close l.close 0 l.first) × (l.at < 2 ^ 34) × (l.count + l.left ≡ l.close)

abbrev pub decreases-commas : goal.decreases-commas
decreases-commas l = l.left
