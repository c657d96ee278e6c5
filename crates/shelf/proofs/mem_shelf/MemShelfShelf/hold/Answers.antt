use Rattle.shelf.specs.Past.{past_of}
use Rattle.shelf.proofs.PastLemmas.{sound_now, sound_still}
use Rattle.shelf.proofs.mem_shelf.MemShelfShelf.hold.Goals as goal

pub invariant_of-self-2 : goal.invariant_of-self-2
invariant_of-self-2 c =
    let files = c.args.self.now.files.items in
    let past = past_of c.args.self.now.past in
    record {
      one_each = c.hold_in.ensures.one_each;
      sound = sound_still files c.hold_in.new.files.items past c.args.self.now.sound (c.hold_in.ensures.sound (sound_now files past c.args.self.now.sound));
    }
