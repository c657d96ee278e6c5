-- Piece by piece.
use Rattle.std.proofs.Common.{◌≡◌, ℕ, ◌<◌, ◌==◌, List, length, false, sym, ap, ◌∙◌, arith}
use Rattle.std.specs.List.{list_all}
use Rattle.std.proofs.lemmas.Bool.Decides.{nat_tests}
use Rattle.options.specs.Ini.{is_signed, pieces}
use Rattle.options.proofs.Pieces.{all_step, all_fails}
use Rattle.options.proofs.ini.are_signed.Goals as goal

some : (s : List ℕ) → false ≡ (length s == 0) → 0 < length s
some s e = grind (arith, nat_tests)

pub loop-rest-preserved : goal.loop-rest-preserved
loop-rest-preserved c =
    let s = c.loop-rest.rest.now in
    let n = c.length_before_blank-end.result in
    c.loop-rest.invariant
    ∙ all_step s n c.length_before_blank-end.ensures.value c.length_before_blank-end.ensures.within (some s c.loop-rest-test.ensures) (sym c.if-not-is_fine.ensures)
    ∙ ap (λ t. list_all is_signed (pieces t)) (sym c.after-rest.ensures)

pub returns-then-not-is_fine : goal.returns-then-not-is_fine
returns-then-not-is_fine c =
    let s = c.loop-rest.rest.now in
    let n = c.length_before_blank-end.result in
    sym (c.loop-rest.invariant
    ∙ all_fails s n c.length_before_blank-end.ensures.value c.length_before_blank-end.ensures.within (some s c.loop-rest-test.ensures) (sym c.if-not-is_fine.ensures))
