-- What comes of the words that are left comes of all words.
use Rattle.std.proofs.Common.{◌≡◌, ◌+◌, List, Some, drop, map, string_bytes, ◌≤◌}
use Rattle.directive_machine.specs.declared.texts.Text.{Text}
use Rattle.options.specs.Drafts.{IsDraft, first_draft}
use Rattle.options.specs.Plans.{words_read}
use Rattle.options.proofs.words.read_words.Given as goal

abbrev pub invariant-loop-word : goal.invariant-loop-word
invariant-loop-word g l = record {
  counted : l.number ≡ l.word-index;
  sound : IsDraft l.draft;
  held : g.T.Texts.held l.texts ≡ g.T.Texts.held l.initial.texts;
  later : g.T.Texts.faults l.initial.texts ≤ g.T.Texts.faults l.texts;
  rest : (h : List Text) → g.T.Texts.held l.initial.texts ≡ Some h →
      words_read h 1 (map string_bytes l.words) first_draft ≡ words_read h (l.number + 1) (drop l.word-index (map string_bytes l.words)) l.draft;
}
