use Rattle.std.proofs.Common.{refl, sym, ◌∙◌, arith}
use Rattle.state_file.specs.Frames.{layout}
use Rattle.state_file.proofs.Fronts.{found_other, found_end, found_same}
use Rattle.state_file.proofs.Shapes.{laid_out}
use Rattle.state_file.proofs.look.compare.Goals as goal

pub first_difference-requires-clause-room : goal.first_difference-requires-clause-room
first_difference-requires-clause-room c =
    let ok = laid_out c.args.frame.now in
    omega (arith, ok.gates, c.requires.long, c.requires.room)

pub returns-in-Some : goal.returns-in-Some
returns-in-Some c = λ d f.
    let w = c.in-Some.ensures.some in (
      refl,
      found_other (layout c.args.frame.now) (laid_out c.args.frame.now) c.args.front.now c.args.fresh.now d c.args.size c.in-Some.at
          c.requires.some c.requires.gate c.requires.long c.requires.head w.0 w.1 w.2 w.3 f,
    )

pub returns-then-size-length : goal.returns-then-size-length
returns-then-size-length c = λ d f. (
  refl,
  found_same (layout c.args.frame.now) (laid_out c.args.frame.now) c.args.front.now c.args.fresh.now d c.args.size
      c.requires.some c.requires.gate c.requires.long c.requires.head c.in-None.ensures.none (c.if-size-length.true ∙ c.length.ensures) f,
)

pub returns-else-size-length : goal.returns-else-size-length
returns-else-size-length c = λ d f. (
  refl,
  found_end (layout c.args.frame.now) (laid_out c.args.frame.now) c.args.front.now c.args.fresh.now d c.args.size
      c.requires.some c.requires.gate c.requires.long c.requires.head c.in-None.ensures.none
      (λ e. c.if-size-length.false (e ∙ sym c.length.ensures)) f,
)
