-- What comes of the rest comes of the whole text.
use Rattle.std.proofs.Common.{◌≡◌, ◌+◌, ◌≤◌, length, true}
use Rattle.std.specs.Option.{option_copied}
use Rattle.std.specs.Str.Lines.{lines}
use Rattle.options.specs.Drafts.{IsDraft}
use Rattle.options.specs.Ini.{lines_read}
use Rattle.options.proofs.ini.read_lines.Given as goal

abbrev pub invariant-loop-rest : goal.invariant-loop-rest
invariant-loop-rest l = record {
  sound : IsDraft l.draft;
  count : l.number + length l.rest ≤ 1 + length l.text;
  rest : lines_read (option_copied l.chosen) 1 true (lines l.text) l.initial.draft
      ≡ lines_read (option_copied l.chosen) l.number l.counts (lines l.rest) l.draft;
}

abbrev pub decreases-loop-rest : goal.decreases-loop-rest
decreases-loop-rest l = length l.rest
