use Rattle.std.proofs.Common.{◌+◌, ◌*◌, ◌≤◌, ℕ, ◌∙◌, arith}
use Rattle.std.proofs.Math.Nat.{mul-le-mul_left}
use Rattle.state_file.proofs.Drawing.{lines_more, part_long, part_at}
use Rattle.state_file.proofs.lay.lay_lines.Goals as goal

pub loop-row-preserved : goal.loop-row-preserved
loop-row-preserved c =
    let a : ℕ = c.args.line * c.loop-row.row in
    let lt : c.loop-row.row + 1 ≤ c.args.count = omega arith in
    let m : c.args.line * (c.loop-row.row + 1) ≤ c.args.line * c.args.count = mul-le-mul_left c.args.line lt in
    let long = part_long a c.args.line c.args.bytes.now (omega (arith, m, c.requires.long)) in
    lines_more c.args.start c.args.stride c.args.line c.loop-row.row c.args.bytes.now c.args.bytes.now c.args.out.now c.loop-row.out c.put_at.new.out
    c.requires.apart
    (λ q hq. c.put_at.ensures.within q (omega (arith, long)) ∙ part_at a c.args.line c.args.bytes.now q hq)
    c.put_at.ensures.below
    (λ k hk. c.put_at.ensures.above k (omega (arith, long)))
    c.loop-row.invariant
