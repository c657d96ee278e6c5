-- Three clocks.
use Rattle.std.proofs.Common.{◌++◌, ap, ◌∙◌}
use Rattle.options.specs.Frames.{clock_of}
use Rattle.options.specs.Keys.{raw_bytes}
use Rattle.options.proofs.Glue.{glue3}
use Rattle.options.proofs.keys.append_clocks.Goals as goal

pub returns : goal.returns
returns c =
    let p = c.args.p.now in
    let out = c.args.out.now.items in
    glue3 out (raw_bytes (clock_of p c.args.frame)) (raw_bytes p.initial_clock) (raw_bytes p.final_clock)
    c.append_raw.new.out.items c.append_raw-2.new.out.items c.append_raw-3.new.out.items
    (c.in_ok-append_raw.ensures ∙ ap (λ z. out ++ raw_bytes z) c.clock.ensures) c.in_ok-append_raw-2.ensures c.in_ok-append_raw-3.ensures
