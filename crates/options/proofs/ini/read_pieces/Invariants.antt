-- What comes of the rest comes of the whole line.
use Rattle.std.proofs.Common.{◌≡◌, length}
use Rattle.options.specs.Drafts.{IsDraft}
use Rattle.options.specs.Ini.{pieces, pieces_read}
use Rattle.options.proofs.ini.read_pieces.Given as goal

abbrev pub invariant-loop-rest : goal.invariant-loop-rest
invariant-loop-rest l = record {
  sound : IsDraft l.draft;
  rest : pieces_read l.place (pieces l.line) l.initial.draft ≡ pieces_read l.place (pieces l.rest) l.draft;
}

abbrev pub decreases-loop-rest : goal.decreases-loop-rest
decreases-loop-rest l = length l.rest
