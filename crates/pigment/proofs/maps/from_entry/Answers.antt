use Rattle.std.proofs.Common.{rules, ◌≡◌, ◌∙◌, sym, true, false}
use Rattle.std.specs.Prelude.{int_le}
use Rattle.std.proofs.lemmas.Bool.{not-false, not-true}
use Rattle.pigment.proofs.Entries.{next_entry}
use Rattle.pigment.proofs.maps.from_entry.Goals as goal

pub returns-then-is_before-clause-value : goal.returns-then-is_before-clause-value
returns-then-is_before-clause-value c =
    let next = c.next-item.result in let entry = c.loop-next.entry.now in
    let peel = next_entry entry next c.args.rest.now c.loop-next.next-index c.args.at c.loop-next-test.true c.next-item.is in
    let before : int_le next.at c.args.at ≡ false = not-true (int_le next.at c.args.at) (sym c.is_before.ensures.reached ∙ c.if-is_before.true) in
    c.between.ensures.value ∙ sym (rw before at peel) ∙ c.loop-next.invariant.same

pub loop-next-preserved : goal.loop-next-preserved
loop-next-preserved c =
    let next = c.next-item.result in let entry = c.loop-next.entry.now in
    let peel = next_entry entry next c.args.rest.now c.loop-next.next-index c.args.at c.loop-next-test.true c.next-item.is in
    let reached : int_le next.at c.args.at ≡ true = not-false (int_le next.at c.args.at) (sym c.is_before.ensures.reached ∙ c.if-is_before.false) in
    record {
      same = sym (rw reached at peel) ∙ c.loop-next.invariant.same;
      valid = search rules;
      reached = c.is_before.ensures.behind c.if-is_before.false;
    }
