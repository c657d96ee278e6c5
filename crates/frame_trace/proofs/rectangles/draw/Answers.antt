use Rattle.std.proofs.Common.{◌≡◌, ℕ, ◌+◌, ◌*◌, ◌/◌, refl, subst, sym, ◌∙◌, arith}
use Rattle.csg_hits.specs.Hits.{Fits}
use Rattle.frame_trace.specs.Pictures.{IsPixel, IsRow}
use Rattle.frame_trace.specs.Ready.{view_in, Compares, HasRoom, StandsAt}
use Rattle.frame_trace.specs.declared.work.Work.{Work}
use Rattle.frame_trace.proofs.Drawn.{none_drawn, more_drawn, all_drawn, more_bytes}
use Rattle.frame_trace.proofs.rectangles.draw.Goals as goal
use Rattle.frame_trace.proofs.rectangles.draw.Goals.{then-compares, else-compares}

pub loop-k-init : goal.loop-k-init
loop-k-init g c =
    let v = view_in g.W.World.surfaces c.args.t.now in
    let span = c.span_of-span.result in
    let wide = c.args.part.now.width + 2 in
    let Q : Work → Type 0 = λ work. Fits (g.W.World.surfaces c.args.t.now.world) work.scratch × HasRoom work.rows wide × (Compares c.args.t.now.format.antialias → StandsAt v span c.args.part.now.y work.rows) in
    let begun : Q c.if-compares.work =
    elim c.if-compares.branch [
      | then-compares w ↦ subst Q (sym w.work-is) (w.begin.ensures.fits, w.begin.ensures.keeps wide c.requires.fit.rows, λ _. w.begin.ensures.stands)
      | else-compares w ↦ subst Q (sym w.work-is) (c.requires.fit.scratch, c.requires.fit.rows, λ h. absurd (c.compares.ensures.never w.if-compares.false h))
    ] in
    let P : ℕ → Type 0 = λ row. StandsAt v span row c.if-compares.work.rows in
    let first : c.args.part.now.y ≡ c.args.part.now.y + 0 = omega arith in
    record {
      fits = begun.0;
      room = begun.1;
      stands = λ h. subst P first (begun.2 h);
      drawn = none_drawn (λ row. IsRow (λ column. IsPixel v column row) c.args.part.now.x c.args.part.now.width) c.args.part.now.y c.args.out.now.items;
      long = omega arith;
      capacity = refl;
    }

pub loop-k-preserved : goal.loop-k-preserved
loop-k-preserved g c =
    let v = view_in g.W.World.surfaces c.args.t.now in
    let P : ℕ → Type 0 = λ row. StandsAt v c.span_of-span.result row c.draw_row.new.work.rows in
    let next : c.args.part.now.y + c.loop-k.k + 1 ≡ c.args.part.now.y + (c.loop-k.k + 1) = omega arith in
    record {
      fits = c.draw_row.ensures.fits;
      room = c.draw_row.ensures.keeps (c.args.part.now.width + 2) c.loop-k.invariant.room;
      stands = λ h. subst P next (c.draw_row.ensures.stands h);
      drawn = more_drawn (λ row. IsRow (λ column. IsPixel v column row) c.args.part.now.x c.args.part.now.width) c.args.part.now.y c.loop-k.k c.args.out.now.items c.loop-k.out.items c.draw_row.new.out.items
          c.loop-k.invariant.drawn c.draw_row.ensures.drawn;
      long = omega (arith, more_bytes (3 * (c.args.t.now.format.bits / 8) * c.args.part.now.width) c.loop-k.k);
      capacity = c.draw_row.ensures.capacity ∙ c.loop-k.invariant.capacity;
    }

pub returns-clause-drawn : goal.returns-clause-drawn
returns-clause-drawn g c =
    all_drawn (λ row. IsRow (λ column. IsPixel (view_in g.W.World.surfaces c.args.t.now) column row) c.args.part.now.x c.args.part.now.width) c.args.part.now.y c.loop-k.k c.args.part.now.height
    c.args.out.now.items c.loop-k.out.items (omega arith) (omega arith) c.loop-k.invariant.drawn
