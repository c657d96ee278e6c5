use Rattle.shelf.specs.Disk.{name_at}
use Rattle.state_file.proofs.Making.{ran_quiet}
use Rattle.state_file.proofs.look.read_front.Goals as goal

pub returns-in_err-read-clause-ran : goal.returns-in_err-read-clause-ran
returns-in_err-read-clause-ran g c =
    let name = name_at (g.S.Shelf.slots c.args.shelf.now c.args.slot) in
    ran_quiet g.S.Shelf.moment g.S.Shelf.images name (g.S.Shelf.images c.args.shelf.now (g.S.Shelf.moment c.args.shelf.now) name)
    c.args.shelf.now c.read.new.self c.read.ensures.time c.read.ensures.crash (λ d i. i)

pub returns-clause-ran : goal.returns-clause-ran
returns-clause-ran g c =
    let name = name_at (g.S.Shelf.slots c.args.shelf.now c.args.slot) in
    ran_quiet g.S.Shelf.moment g.S.Shelf.images name (g.S.Shelf.images c.args.shelf.now (g.S.Shelf.moment c.args.shelf.now) name)
    c.args.shelf.now c.read.new.self c.read.ensures.time c.read.ensures.crash (λ d i. i)
