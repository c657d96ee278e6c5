use Rattle.std.proofs.Common.{◌<◌, length, arith}
use Rattle.shelf.proofs.PickLemmas.{next_file, all_picked, one_each_of, sound_picked}
use Rattle.shelf.proofs.mem_shelf.crash_all.Goals as goal

pub crash-used-requires : goal.crash-used-requires
crash-used-requires c =
    let l = c.loop-place in
    let inside : l.place < length l.files.items = omega (arith, l.files.ok, c.loop-place-test.true, l.invariant.long, c.len-place-end.ensures) in
    let was = c.index_mut.result.now in
    c.requires.sound l.place was (next_file l.place l.files.items c.args.files.now.items was inside l.invariant.long l.invariant.ahead c.index_mut.ensures.value)

pub returns-clause-picked : goal.returns-clause-picked
returns-clause-picked c =
    let l = c.loop-place in
    all_picked l.place c.args.files.now.items l.files.items c.args.picks.now l.rest.now (omega (arith, l.files.ok, c.loop-place-test.false, l.invariant.long, c.len-place-end.ensures)) l.invariant.long l.invariant.picked

pub returns-clause-one_each : goal.returns-clause-one_each
returns-clause-one_each c =
    let l = c.loop-place in
    one_each_of c.args.files.now.items c.args.picks.now l.files.items
    (all_picked l.place c.args.files.now.items l.files.items c.args.picks.now l.rest.now (omega (arith, l.files.ok, c.loop-place-test.false, l.invariant.long, c.len-place-end.ensures)) l.invariant.long l.invariant.picked)
    c.requires.one_each

pub returns-clause-sound : goal.returns-clause-sound
returns-clause-sound c =
    let l = c.loop-place in
    sound_picked c.args.files.now.items c.args.picks.now l.files.items
    (all_picked l.place c.args.files.now.items l.files.items c.args.picks.now l.rest.now (omega (arith, l.files.ok, c.loop-place-test.false, l.invariant.long, c.len-place-end.ensures)) l.invariant.long l.invariant.picked)
