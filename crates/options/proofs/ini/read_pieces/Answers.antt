-- Piece by piece.
use Rattle.std.proofs.Common.{◌≡◌, ℕ, ◌<◌, ◌+◌, ◌==◌, List, length, take, drop, true, false, Err, sym, ap, subst, ◌∙◌, arith}
use Rattle.std.proofs.lemmas.Bool.Decides.{nat_tests}
use Rattle.options.specs.Outcomes.{◌>>=◌, Answers}
use Rattle.options.specs.Ini.{pieces, piece_read, pieces_read}
use Rattle.options.proofs.Pieces.{read_step, read_none}
use Rattle.options.proofs.Steps.{then_err}
use Rattle.options.proofs.ini.read_pieces.Goals as goal

some : (s : List ℕ) → false ≡ (length s == 0) → 0 < length s
some s e = grind (arith, nat_tests)

none : (s : List ℕ) → true ≡ (length s == 0) → length s ≡ 0
none s e = grind (arith, nat_tests)

pub returns-in-Err : goal.returns-in-Err
returns-in-Err c =
    let s = c.loop-rest.rest.now in
    let n = c.length_before_blank-end.result in
    let p = c.args.place in
    subst (λ m. Answers m (Err c.in-Err.fault))
    (sym (c.loop-rest.invariant.rest ∙ read_step p s n c.loop-rest.draft c.length_before_blank-end.ensures.value c.length_before_blank-end.ensures.within (some s c.loop-rest-test.ensures)))
    (then_err (piece_read p (take n s) c.loop-rest.draft) c.in-Err.fault (λ next. pieces_read p (pieces (drop (n + 1) s)) next) c.in-Err.ensures)

pub loop-rest-preserved : goal.loop-rest-preserved
loop-rest-preserved c =
    let s = c.loop-rest.rest.now in
    let n = c.length_before_blank-end.result in
    let p = c.args.place in
    record {
      sound = c.in-Ok.ensures.1;
      rest = c.loop-rest.invariant.rest
          ∙ read_step p s n c.loop-rest.draft c.length_before_blank-end.ensures.value c.length_before_blank-end.ensures.within (some s c.loop-rest-test.ensures)
          ∙ ap (λ m. m >>= λ next. pieces_read p (pieces (drop (n + 1) s)) next) c.in-Ok.ensures.0
          ∙ ap (λ t. pieces_read p (pieces t) c.in-Ok.next) (sym c.after-rest.ensures);
    }

pub returns : goal.returns
returns c =
    (c.loop-rest.invariant.rest ∙ read_none c.args.place c.loop-rest.rest.now c.loop-rest.draft (none c.loop-rest.rest.now c.loop-rest-test.ensures), c.loop-rest.invariant.sound)
