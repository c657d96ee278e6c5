use Rattle.object_items.specs.SoundGroups.{object_sound}
use Rattle.object_items.proofs.item.read_object.Goals as goal

pub returns-clause-sound : goal.returns-clause-sound
returns-clause-sound c =
    object_sound c.args.tokens.now c.args.set.now c.args.depths c.args.leaves_before c.args.sheets_before c.args.word c.args.at _ _ c.requires.few c.requires.leaves c.requires.sheets c.in_ok-object.ensures.found
