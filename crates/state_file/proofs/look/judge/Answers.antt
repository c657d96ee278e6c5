use Rattle.std.proofs.Common.{refl, sym, ◌∙◌, ◌≡◌, true, false}
use Rattle.state_file.specs.Frames.{layout}
use Rattle.state_file.proofs.Fronts.{found_new}
use Rattle.state_file.proofs.Shapes.{laid_out}
use Rattle.state_file.proofs.look.judge.Goals as goal

pub returns-then-is_new-clause-found : goal.returns-then-is_new-clause-found
returns-then-is_new-clause-found c = λ d f.
    found_new (layout c.args.frame.now) (laid_out c.args.frame.now) c.args.front.now c.args.size c.gate_of-gate.result c.args.resume d
    c.requires.long c.gate_of-gate.ensures (c.if-is_new.ensures.new refl) f

pub returns-clause-anew : goal.returns-clause-anew
returns-clause-anew c = λ r. let bad : true ≡ false = sym (c.if-is_new.ensures.kept refl).0 ∙ r in absurd cc
