-- What is found under the paths that are left is what is found.
use Rattle.std.proofs.Common.{◌≡◌, ◌≤◌, List, Some, length}
use Rattle.directive_machine.specs.declared.texts.Text.{Text}
use Rattle.directive_machine.specs.Sources.{found_beneath}
use Rattle.directive_machine.proofs.include.find_beneath.Given as goal

abbrev pub invariant-paths : goal.invariant-paths
invariant-paths g l = record {
  held : g.T.Texts.held l.texts ≡ g.T.Texts.held l.fn.texts;
  later : g.T.Texts.faults l.fn.texts ≤ g.T.Texts.faults l.texts;
  rest : (h : List Text) → g.T.Texts.held l.fn.texts ≡ Some h → found_beneath h l.libraries l.name ≡ found_beneath h l.rest l.name;
}

abbrev pub decreases-paths : goal.decreases-paths
decreases-paths g l = length l.rest
