-- The parts follow one another.
use Rattle.image_out.proofs.FileLemmas.{targa_header_by_parts}
use Rattle.image_out.proofs.file.put_targa_header.Goals as goal

pub returns-clause-items : goal.returns-clause-items
returns-clause-items c =
    targa_header_by_parts _ _ _ _ _ _ c.args.kind c.args.width c.args.height
    c.append.ensures.items c.append-2.ensures.items c.append_u16.ensures.items c.append_u16-2.ensures.items c.append-3.ensures.items
