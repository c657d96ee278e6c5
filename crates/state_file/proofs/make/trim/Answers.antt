use Rattle.std.proofs.Common.{arith}
use Rattle.shelf.specs.Disk.{name_at}
use Rattle.state_file.specs.Frames.{layout}
use Rattle.state_file.specs.Opening.{IsBlank}
use Rattle.state_file.proofs.Making.{ran_call, closed_blank, trim_closed}
use Rattle.state_file.proofs.Shapes.{laid_out}
use Rattle.state_file.proofs.make.trim.Goals as goal

pub returns-in_err-cut-clause-ran : goal.returns-in_err-cut-clause-ran
returns-in_err-cut-clause-ran g c =
    ran_call g.S.Shelf.moment g.S.Shelf.images (name_at (g.S.Shelf.slots c.args.shelf.now c.args.slot)) (IsBlank (layout c.args.frame.now)) c.args.shelf.now c.cut.new.self c.cut.ensures.time c.cut.ensures.crash_others
    (λ d i. closed_blank (layout c.args.frame.now) d (c.requires.closed d i).1)
    (λ e i. closed_blank (layout c.args.frame.now) e (let f = c.cut.ensures.crash e i in let r = c.requires.closed f.0 f.1 in trim_closed c.length-all.result f.0 e (omega (arith, (laid_out c.args.frame.now).gates, (laid_out c.args.frame.now).some, c.length-all.ensures)) f.2 (omega (arith, r.0, c.requires.some)) r.1).1)

pub returns-clause-ran : goal.returns-clause-ran
returns-clause-ran g c =
    ran_call g.S.Shelf.moment g.S.Shelf.images (name_at (g.S.Shelf.slots c.args.shelf.now c.args.slot)) (IsBlank (layout c.args.frame.now)) c.args.shelf.now c.cut.new.self c.cut.ensures.time c.cut.ensures.crash_others
    (λ d i. closed_blank (layout c.args.frame.now) d (c.requires.closed d i).1)
    (λ e i. closed_blank (layout c.args.frame.now) e (let f = c.cut.ensures.crash e i in let r = c.requires.closed f.0 f.1 in trim_closed c.length-all.result f.0 e (omega (arith, (laid_out c.args.frame.now).gates, (laid_out c.args.frame.now).some, c.length-all.ensures)) f.2 (omega (arith, r.0, c.requires.some)) r.1).1)

pub returns-clause-closed : goal.returns-clause-closed
returns-clause-closed g c = λ e i. (let f = c.cut.ensures.crash e i in let r = c.requires.closed f.0 f.1 in trim_closed c.length-all.result f.0 e (omega (arith, (laid_out c.args.frame.now).gates, (laid_out c.args.frame.now).some, c.length-all.ensures)) f.2 (omega (arith, r.0, c.requires.some)) r.1)
