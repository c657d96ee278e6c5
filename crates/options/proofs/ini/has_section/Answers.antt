-- Line by line.
use Rattle.std.proofs.Common.{◌≡◌, ℕ, ◌<◌, ◌+◌, ◌==◌, ◌||◌, List, length, drop, true, false, sym, ap, ◌∙◌, arith}
use Rattle.std.specs.Str.Lines.{lines}
use Rattle.std.proofs.lemmas.Bool.Decides.{nat_tests}
use Rattle.options.specs.Ini.{has_section}
use Rattle.options.proofs.Pieces.{section_first, section_none}
use Rattle.options.proofs.ini.has_section.Goals as goal

some : (s : List ℕ) → false ≡ (length s == 0) → 0 < length s
some s e = grind (arith, nat_tests)

none : (s : List ℕ) → true ≡ (length s == 0) → length s ≡ 0
none s e = grind (arith, nat_tests)

pub returns-then-is_named : goal.returns-then-is_named
returns-then-is_named c =
    let s = c.loop-rest.rest.now in
    let first = section_first c.args.name.now s _ _ _ c.length_before-end.result c.length_before-end.ensures.value c.length_before-end.ensures.within (some s c.loop-rest-test.ensures) c.first_line.ensures c.bare-line.ensures c.enclosed.ensures in
    sym (c.loop-rest.invariant ∙ first ∙ ap (λ b. b || has_section c.args.name.now (lines (drop (c.length_before-end.result + 1) s))) (sym c.if-is_named.ensures))

pub loop-rest-preserved : goal.loop-rest-preserved
loop-rest-preserved c =
    let s = c.loop-rest.rest.now in
    let first = section_first c.args.name.now s _ _ _ c.length_before-end.result c.length_before-end.ensures.value c.length_before-end.ensures.within (some s c.loop-rest-test.ensures) c.first_line.ensures c.bare-line.ensures c.enclosed.ensures in
    c.loop-rest.invariant ∙ first
    ∙ ap (λ b. b || has_section c.args.name.now (lines (drop (c.length_before-end.result + 1) s))) (sym c.if-is_named.ensures)
    ∙ ap (λ t. has_section c.args.name.now (lines t)) (sym c.after-rest.ensures)

pub returns : goal.returns
returns c = sym (c.loop-rest.invariant ∙ section_none c.args.name.now c.loop-rest.rest.now (none c.loop-rest.rest.now c.loop-rest-test.ensures))
