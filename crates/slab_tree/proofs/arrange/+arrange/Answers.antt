use Rattle.std.proofs.Common.{◌*◌, ◌-◌}
use Rattle.std.proofs.lemmas.List.Sorted.{IsPermutation-trans, IsPermutation-put_mid}
use Rattle.slab_tree.proofs.arrange.+arrange.Goals as goal

pub returns : goal.returns
returns t c =
    let low = 4 * c.args.first in
    let part = IsPermutation-put_mid low (c.min-high.result - low) c.args.order.now c.halve.new.run c.halve.ensures in
    let both = IsPermutation-trans _ _ _ c.arrange.ensures.permutation c.arrange-2.ensures.permutation in
    record { permutation = IsPermutation-trans _ _ _ part both }
