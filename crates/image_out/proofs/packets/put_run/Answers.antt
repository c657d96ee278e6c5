-- The count, and then the one pixel.
use Rattle.image_out.proofs.PacketLemmas.{run_by_parts}
use Rattle.image_out.proofs.packets.put_run.Goals as goal

pub returns-clause-items : goal.returns-clause-items
returns-clause-items c = run_by_parts c.args.pixel.now _ _ _ c.args.count c.requires.pixel c.append.ensures.items c.append_turned.ensures.items
