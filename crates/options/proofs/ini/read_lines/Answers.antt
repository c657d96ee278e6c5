-- Line by line.
use Rattle.std.proofs.Common.{◌≡◌, ℕ, ◌<◌, ◌+◌, ◌-◌, ◌==◌, List, length, length-drop, drop, true, false, Err, sym, ap, subst, ◌∙◌, arith}
use Rattle.std.proofs.lemmas.Bool.Decides.{nat_tests}
use Rattle.std.specs.Option.{option_copied}
use Rattle.std.specs.Str.Lines.{lines}
use Rattle.options.specs.declared.fault.Where.TheVariants.{Line}
use Rattle.options.specs.Ini.{counts_behind, line_step, lines_read}
use Rattle.options.specs.Outcomes.{◌>>=◌, Answers}
use Rattle.options.proofs.Pieces.{line_first, no_lines}
use Rattle.options.proofs.Steps.{then_err}
use Rattle.options.proofs.ini.read_lines.Goals as goal

some : (s : List ℕ) → false ≡ (length s == 0) → 0 < length s
some s e = grind (arith, nat_tests)

none : (s : List ℕ) → true ≡ (length s == 0) → length s ≡ 0
none s e = grind (arith, nat_tests)

pub returns-in-Err : goal.returns-in-Err
returns-in-Err c =
    let s = c.loop-rest.rest.now in
    let chosen = option_copied c.args.chosen in
    let section = option_copied c.enclosed-section.result in
    let number = c.loop-rest.number in
    let counts = c.loop-rest.counts in
    let n = c.length_before-end.result in
    let first = line_first chosen number counts s _ c.bare-line.result.now section n c.loop-rest.draft c.length_before-end.ensures.value c.length_before-end.ensures.within (some s c.loop-rest-test.ensures) c.first_line.ensures c.bare-line.ensures c.enclosed-section.ensures in
    subst (λ m. Answers m (Err c.in-Err.fault)) (sym (c.loop-rest.invariant.rest ∙ first))
    (then_err (line_step (Line number) counts section c.bare-line.result.now c.loop-rest.draft) c.in-Err.fault
    (λ next. lines_read chosen (number + 1) (counts_behind chosen counts section) (lines (drop (n + 1) s)) next) c.in-Err.ensures)

pub loop-rest-preserved : goal.loop-rest-preserved
loop-rest-preserved c =
    let s = c.loop-rest.rest.now in
    let chosen = option_copied c.args.chosen in
    let section = option_copied c.enclosed-section.result in
    let number = c.loop-rest.number in
    let counts = c.loop-rest.counts in
    let n = c.length_before-end.result in
    let first = line_first chosen number counts s _ c.bare-line.result.now section n c.loop-rest.draft c.length_before-end.ensures.value c.length_before-end.ensures.within (some s c.loop-rest-test.ensures) c.first_line.ensures c.bare-line.ensures c.enclosed-section.ensures in
    let shorter : length (drop (n + 1) s) ≡ length s - (n + 1) = length-drop (n + 1) s in
    let rest_length : length c.after-rest.result.now ≡ length (drop (n + 1) s) = ap length c.after-rest.ensures in
    record {
      sound = c.in-Ok.ensures.1;
      count = omega (arith, shorter, rest_length, some s c.loop-rest-test.ensures, c.loop-rest.invariant.count);
      rest = c.loop-rest.invariant.rest ∙ first
          ∙ ap (λ m. m >>= λ next. lines_read chosen (number + 1) (counts_behind chosen counts section) (lines (drop (n + 1) s)) next) c.in-Ok.ensures.0
          ∙ ap (λ t. lines_read chosen (number + 1) (counts_behind chosen counts section) (lines t) c.in-Ok.next) (sym c.after-rest.ensures)
          ∙ ap (λ b. lines_read chosen (number + 1) b (lines c.after-rest.result.now) c.in-Ok.next) (sym c.counts_behind-counts.ensures);
    }

pub returns : goal.returns
returns c =
    (c.loop-rest.invariant.rest ∙ no_lines (option_copied c.args.chosen) c.loop-rest.number c.loop-rest.counts c.loop-rest.rest.now c.loop-rest.draft (none c.loop-rest.rest.now c.loop-rest-test.ensures), c.loop-rest.invariant.sound)
