-- The parts follow one another.
use Rattle.std.proofs.Common.{ap, ◌∙◌, ◌++◌}
use Rattle.image_out.proofs.FileLemmas.{ppm_header_by_parts}
use Rattle.image_out.proofs.file.put_ppm_header.Goals as goal

pub returns-clause-items : goal.returns-clause-items
returns-clause-items c =
    ppm_header_by_parts _ _ _ _ _ _ _ c.args.width c.args.height c.args.bits
    c.append.ensures.items c.append_decimal.ensures.items c.append-2.ensures.items c.append_decimal-2.ensures.items c.append-3.ensures.items
    (c.append-4.ensures.items ∙ ap (λ t. c.append-3.new.out.items ++ t) c.greatest_line.ensures.value)
