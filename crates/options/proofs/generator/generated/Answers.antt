-- A further ball.
use Rattle.std.proofs.Common.{◌≡◌, ◌+◌, ℕ, ◌++◌, refl, ap, sym, ◌∙◌, add-one}
use Rattle.std.proofs.lemmas.List.{append-nil, append_assoc}
use Rattle.options.specs.Generated.{surroundings, ball, balls}
use Rattle.options.proofs.generator.generated.Goals as goal

more : (n : ℕ) → balls (n + 1) ≡ balls n ++ ball n
unfolding balls
more n = rw add-one refl

pub loop-number-init : goal.loop-number-init
unfolding balls
loop-number-init c = c.in_ok-append_surroundings.ensures ∙ ap (λ l. l ++ surroundings) c.new-text.ensures.items ∙ sym (append-nil surroundings)

pub loop-number-preserved : goal.loop-number-preserved
loop-number-preserved c =
    let n = c.loop-number.number in
    c.in_ok-append_ball.ensures ∙ ap (λ l. l ++ ball n) c.loop-number.invariant ∙ append_assoc surroundings (balls n) (ball n)
    ∙ ap (λ l. surroundings ++ l) (sym (more n))
