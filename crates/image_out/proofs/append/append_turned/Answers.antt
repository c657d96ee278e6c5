-- A step turns one pixel, and at the end no whole pixel is left.
use Rattle.std.proofs.Common.{◌++◌, ◌<◌, length, drop, arith, ap, sym, ◌∙◌, length-drop, append-nil}
use Rattle.std.specs.List.{flat_map}
use Rattle.image_out.specs.Pixels.{pixels_of, turned}
use Rattle.image_out.proofs.PixelLemmas.{turned_more, pixels_short}
use Rattle.image_out.proofs.append.append_turned.Goals as goal

pub loop-at-preserved : goal.loop-at-preserved
loop-at-preserved c =
    let l = c.loop-at in
    record {
      items = turned_more l.at c.args.samples.now _ _ _ _ _ (omega (arith, c.loop-at-test.true)) c.push_reserved.ensures.items c.push_reserved-in-loop-at.ensures.items c.push_reserved-in-loop-at-2.ensures.items l.invariant.items;
      len = omega (arith, l.invariant.len, c.push_reserved.ensures.len, c.push_reserved-in-loop-at.ensures.len, c.push_reserved-in-loop-at-2.ensures.len);
      capacity = c.push_reserved-in-loop-at-2.ensures.capacity ∙ c.push_reserved-in-loop-at.ensures.capacity ∙ c.push_reserved.ensures.capacity ∙ l.invariant.capacity;
      within = omega (arith, c.loop-at-test.true);
    }

pub returns-clause-items : goal.returns-clause-items
returns-clause-items c =
    let l = c.loop-at in
    let few : length (drop l.at c.args.samples.now) < 3 =
    omega (arith, length-drop l.at c.args.samples.now, c.loop-at-test.false, l.invariant.within) in
    sym (append-nil l.list.items) ∙ ap (λ t. l.list.items ++ flat_map turned t) (sym (pixels_short (drop l.at c.args.samples.now) few)) ∙ l.invariant.items ∙ ap (λ v. v.items ++ flat_map turned (pixels_of c.args.samples.now)) c.replace-list.ensures.value
