use Rattle.std.proofs.Common.{◌/◌}
use Rattle.byteorder.specs.Endian.{little_bytes}
use Rattle.state_file.specs.Shape.{layout_of}
use Rattle.state_file.proofs.Heads.{glue}
use Rattle.state_file.proofs.head.append_head.Goals as goal

pub returns : goal.returns
unfolding layout_of
returns c =
    let w = glue c.args.out.now.items (little_bytes 4 c.len.result) (little_bytes 4 c.args.frame.now.geometry.width)
    (little_bytes 4 c.args.frame.now.geometry.height) (little_bytes 4 c.count.result) _
    c.push.new.self.items c.append_number.new.out.items c.append_number-2.new.out.items c.append_number-3.new.out.items
    c.append_number-4.new.out.items c.extend_from_slice.new.self.items (c.args.frame.now.geometry.bits / 8)
    c.in_ok-push.ensures.items c.in_ok-append_number.ensures c.in_ok-append_number-2.ensures c.in_ok-append_number-3.ensures
    c.in_ok-append_number-4.ensures c.in_ok-extend_from_slice.ensures.items in
    let n = c.len.ensures in
    let b = c.count.ensures in
    let k = c.deref.ensures.value in
    cc
