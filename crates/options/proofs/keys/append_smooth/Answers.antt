-- The mark, the threshold and the depth.
use Rattle.std.proofs.Common.{codes}
use Rattle.byteorder.specs.Endian.{little_bytes}
use Rattle.options.specs.Keys.{raw_bytes}
use Rattle.options.proofs.Glue.{glue3}
use Rattle.options.proofs.keys.append_smooth.Goals as goal

pub returns : goal.returns
returns c =
    glue3 c.args.out.now.items (codes "AA") (raw_bytes c.args.antialias.threshold) (little_bytes 4 c.args.antialias.depth)
    c.append.new.out.items c.append_raw.new.out.items c.append_u32.new.out.items
    c.in_ok-append.ensures c.in_ok-append_raw.ensures c.in_ok-append_u32.ensures
