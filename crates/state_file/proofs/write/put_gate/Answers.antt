use Rattle.std.proofs.Common.{◌≡◌, length, arith}
use Rattle.shelf.specs.Disk.{name_at}
use Rattle.state_file.specs.Frames.{layout}
use Rattle.state_file.specs.Layout.{IsLaidOut}
use Rattle.state_file.proofs.Calls.{gate_call, read_long, opens}
use Rattle.state_file.proofs.Shapes.{laid_out}
use Rattle.state_file.proofs.write.put_gate.Goals as goal

pub write_at-requires-clause-begins : goal.write_at-requires-clause-begins
write_at-requires-clause-begins g c = λ d h.
    let l = layout c.args.frame.now in
    let ok : IsLaidOut l = laid_out c.args.frame.now in
    let long : length d ≡ l.all = (c.requires.fits d (g.S.Shelf.reads_an_image c.args.shelf.now _ d h)).file.long in
    omega (arith, ok.gates, c.requires.index, c.gate_at.ensures)

pub write_at-requires-clause-fits : goal.write_at-requires-clause-fits
write_at-requires-clause-fits g c =
    let l = layout c.args.frame.now in
    let ok : IsLaidOut l = laid_out c.args.frame.now in
    omega (arith, ok.gates, c.requires.index, c.gate_at.ensures, c.requires.room.room)

pub returns-in_err-write_at-clause-order : goal.returns-in_err-write_at-clause-order
returns-in_err-write_at-clause-order g c =
    gate_call g.S.Shelf.moment g.S.Shelf.images (name_at (g.S.Shelf.slots c.args.shelf.now c.args.slot)) (layout c.args.frame.now)
    c.args.marks.now c.args.shelf.now c.write_at.new.self c.args.block c.gate_at.result
    (laid_out c.args.frame.now) c.requires.index c.requires.ready c.gate_at.ensures
    c.write_at.ensures.time c.write_at.ensures.crash_others c.write_at.ensures.crash

pub returns-clause-order : goal.returns-clause-order
returns-clause-order g c =
    gate_call g.S.Shelf.moment g.S.Shelf.images (name_at (g.S.Shelf.slots c.args.shelf.now c.args.slot)) (layout c.args.frame.now)
    c.args.marks.now c.args.shelf.now c.write_at.new.self c.args.block c.gate_at.result
    (laid_out c.args.frame.now) c.requires.index c.requires.ready c.gate_at.ensures
    c.write_at.ensures.time c.write_at.ensures.crash_others c.write_at.ensures.crash

pub returns-clause-written : goal.returns-clause-written
returns-clause-written g c = λ d h.
    let l = layout c.args.frame.now in
    let f = c.in_ok-write_at.ensures.written d h in (
      f.0,
      f.1,
      opens l (laid_out c.args.frame.now) c.args.block c.requires.index c.gate_at.result f.0 d c.gate_at.ensures
          (read_long _ _ l c.args.marks.now (g.S.Shelf.reads_an_image c.args.shelf.now _) c.requires.fits f.0 f.1) f.2,
    )
