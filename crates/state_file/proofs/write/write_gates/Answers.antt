use Rattle.std.proofs.Common.{length, None, arith, ap, sym, subst, refl, ◌∙◌}
use Rattle.std.proofs.lemmas.Option.{slice_get_read}
use Rattle.shelf.specs.Disk.{name_at}
use Rattle.state_file.specs.Frames.{layout}
use Rattle.state_file.proofs.Calls.{fits_then, keeps_then}
use Rattle.state_file.proofs.Given.{opened_more}
use Rattle.state_file.proofs.write.write_gates.Goals as goal

pub put_gate-requires-clause-fits : goal.put_gate-requires-clause-fits
put_gate-requires-clause-fits g c = λ d i.
    let name = name_at (g.S.Shelf.slots c.args.shelf.now c.args.slot) in
    let e = ap name_at (c.loop-block.invariant.slots c.args.slot) in
    fits_then g.S.Shelf.moment g.S.Shelf.images name (layout c.args.frame.now) (λ _. Unit {0}) c.args.marks.now c.args.marks.now
    c.args.shelf.now c.loop-block.shelf None tt c.requires.fits c.loop-block.invariant.order d
    (subst (λ n. g.S.Shelf.images c.loop-block.shelf (g.S.Shelf.moment c.loop-block.shelf) n d) e i)

pub returns-in_err-put_gate-clause-order : goal.returns-in_err-put_gate-clause-order
returns-in_err-put_gate-clause-order g c =
    keeps_then g.S.Shelf.moment g.S.Shelf.images (name_at (g.S.Shelf.slots c.args.shelf.now c.args.slot))
    (name_at (g.S.Shelf.slots c.loop-block.shelf c.args.slot)) (layout c.args.frame.now)
    (λ _. Unit {0}) (λ _. Unit {0}) (λ _. Unit {0}) c.args.marks.now c.args.marks.now c.args.marks.now
    c.args.shelf.now c.loop-block.shelf c.put_gate.new.shelf (ap name_at (c.loop-block.invariant.slots c.args.slot)) (λ t u. (u, u))
    c.loop-block.invariant.order c.put_gate.ensures.order

pub loop-block-preserved : goal.loop-block-preserved
loop-block-preserved g c =
    let e = ap name_at (c.loop-block.invariant.slots c.args.slot) in
    let at = slice_get_read c.args.blocks.now (length c.args.blocks.now) c.loop-block.block-index c.block-item.result refl
    c.loop-block-test.true c.block-item.is in
    record {
      order = keeps_then g.S.Shelf.moment g.S.Shelf.images (name_at (g.S.Shelf.slots c.args.shelf.now c.args.slot))
          (name_at (g.S.Shelf.slots c.loop-block.shelf c.args.slot)) (layout c.args.frame.now)
          (λ _. Unit {0}) (λ _. Unit {0}) (λ _. Unit {0}) c.args.marks.now c.args.marks.now c.args.marks.now
          c.args.shelf.now c.loop-block.shelf c.put_gate.new.shelf e (λ t u. (u, u))
          c.loop-block.invariant.order c.put_gate.ensures.order;
      opened = λ d h.
          let f = c.in_ok-put_gate.ensures.written d (subst (λ n. g.S.Shelf.holds c.put_gate.new.shelf n d) (sym e) h) in
          opened_more (layout c.args.frame.now) c.args.blocks.now c.loop-block.block-index c.block-item.result f.0 d c.requires.given at f.2
          (c.loop-block.invariant.opened f.0 (subst (λ n. g.S.Shelf.holds c.loop-block.shelf n f.0) e f.1));
      slots = λ k. c.put_gate.ensures.slots k ∙ c.loop-block.invariant.slots k;
      later = omega (arith, c.loop-block.invariant.later, c.put_gate.ensures.cause.later);
    }
