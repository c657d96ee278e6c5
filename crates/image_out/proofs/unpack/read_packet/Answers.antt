-- A raw packet or a run.
use Rattle.std.proofs.Common.{◌≡◌, ◌*◌, ◌≤◌, ◌<◌, ◌-◌, ◌++◌, length, arith, ap, sym, subst, ◌∙◌, take, drop, get_or}
use Rattle.std.specs.List.{repeat}
use Rattle.image_out.specs.Reading.{ReadsPacket}
use Rattle.image_out.specs.Unpacking.{count_of}
use Rattle.image_out.proofs.ReadLemmas.{by_head, raw_read, repeated, run_read, split_is}
use Rattle.image_out.proofs.unpack.read_packet.Goals as goal
use Rattle.image_out.proofs.unpack.read_packet.Goals.{then-head-lt128, else-head-lt128, then-head-lt128-2, else-head-lt128-2}

pub returns-clause-read : goal.returns-clause-read
returns-clause-read c =
    let bytes = c.args.bytes.now in
    let head = get_or bytes 0 0 in
    let fits : count_of head ≤ c.args.left = omega (arith, c.if-count-left.false) in
    let split = split_is _ _ _ _ c.split_at.ensures.front c.split_at.ensures.back in
    let done = repeated _ _ c.repeat_triples.ensures (sym c.if-is_err.ensures.value) in
    let pixels = c.split_at.result.0.now in
    let body = take (length bytes - 1) (drop 1 bytes) in
    let raw : head < 128 → length pixels ≡ 3 * count_of head =
    λ small. elim c.if-head-lt128.branch [ then-head-lt128 w ↦ omega (arith, w.length-is, c.split_at.ensures.front_len) | else-head-lt128 w ↦ absurd (omega (arith, small, w.if-head-lt128.false)) ] in
    let run : 128 ≤ head → length pixels ≡ 3 =
    λ large. elim c.if-head-lt128.branch [ then-head-lt128 w ↦ absurd (omega (arith, large, w.if-head-lt128.true)) | else-head-lt128 w ↦ omega (arith, w.length-is, c.split_at.ensures.front_len) ] in
    subst (λ t. ReadsPacket c.args.left (count_of head) t c.split_at.result.1.now c.args.out.now.items c.repeat_triples.new.out.items) (by_head bytes c.in-len1-up.len_at_least)
    (elim c.if-head-lt128-2.branch [
      | then-head-lt128-2 v ↦ raw_read c.args.left head body pixels _ _ _ v.if-head-lt128-2.true fits split (raw v.if-head-lt128-2.true) (done ∙ ap (λ n. c.args.out.now.items ++ repeat n pixels) v.times-is)
      | else-head-lt128-2 v ↦ run_read c.args.left head body pixels _ _ _ (omega (arith, v.if-head-lt128-2.false)) (omega (arith, c.type_inv.bytes 0)) fits split (run (omega (arith, v.if-head-lt128-2.false))) (done ∙ ap (λ n. c.args.out.now.items ++ repeat n pixels) v.times-is)
    ])
